-- 02, request 8; 001, 6.3 and Table 4: what is owed for a message of Issue 3, in the papers' words and numbers; what a reply means to a
-- reader that has this platform set up as Issue 3; and the states and the next own number after the message.
use Rattle.std.specs.Prelude.{ℕ, ◌+◌, ◌-◌, ◌*◌, ◌/◌, ◌%◌, ◌^◌, ◌≡◌, Bool, true, false, cond, List, [], ◌∷◌, eqb, length, take, drop}
use Rattle.table.specs.declared.Sections.{Sections}
use Rattle.message.specs.declared.Status.TheVariants.{Down, Up}
use Rattle.message3.specs.declared.Stamp.{Stamp}
use Rattle.message3.specs.declared.Header3.{Header3}
use Rattle.message3.specs.declared.Message3.{Message3}
use Rattle.message3.specs.declared.Message3.TheVariants.{PlatformStatus, PlatformStatusRequest, AvailabilityStatus, AvailabilityStatusRequest}
use Rattle.message3.specs.declared.Message3.TheVariants.{UnknownOperation, ServiceNotAvailable, VersionedDataPull, CompositeChangeRequest}
use Rattle.message3.specs.declared.Message3.TheVariants.{CompositeChangeRequestAck, Operation}
use Rattle.partners.specs.Threes.{is_three}
use Rattle.states.specs.States.{stands_up}
use Rattle.platform.specs.declared.reactions.Standing.{Standing}
use Rattle.platform.specs.Reaction.{found_data}
use Rattle.mixed.specs.declared.AnyReading.TheVariants.{Three}
use Rattle.mixed.specs.Reading.{any_of}
use Rattle.promises.specs.Issue3Messages.{Tells}
use Rattle.promises.specs.Platforms.{operation_with, is_there, number_after}

-- what the call is handed and lent: own number, timestamp and the ID of the own composite; who speaks Issue 3; our services; the type
-- table; the states and the next own number; the list of pending requests; the words of the partners' services; message and output
pub record MixedCall : Type 0 where
  pub own : ℕ
  pub stamp : Stamp
  pub composite : ℕ
  pub partners : List ℕ
  pub ours : List ℕ
  pub table : List ℕ
  pub standing : Standing
  pub pending : List ℕ
  pub services : List ℕ
  pub message : List ℕ
  pub output : List ℕ

-- our services: of a word the lower half is the ID, and an upper half of 2 says AVAILABLE, any other UNAVAILABLE. In a message 1 is
-- AVAILABLE and 0 UNAVAILABLE
abbrev pub id_of : ℕ → ℕ
id_of w = w % 2 ^ 32

abbrev pub state_of : ℕ → ℕ
state_of w = cond (eqb (w / 2 ^ 32) 2) 1 0

abbrev pub all_ours : List ℕ → List (ℕ × ℕ)
all_ours [] = []
all_ours (w ∷ ws) = (id_of w, state_of w) ∷ all_ours ws

-- one of them: of two words with its ID the last counts, and it is UNAVAILABLE where it is not ours
abbrev pub last_of : ℕ → ℕ → List ℕ → ℕ
last_of id before [] = before
last_of id before (w ∷ ws) = last_of id (cond (eqb (id_of w) id) (state_of w) before) ws

abbrev pub state_of_ours : List ℕ → ℕ → ℕ
state_of_ours ours id = last_of id 0 ours

-- a reply: its sequence number, what it means, and of a status of services which services it tells
pub record OwedReply3 : Type 0 where
  pub number : ℕ
  pub means : Message3
  pub tells : List (ℕ × ℕ)

-- status UP with the own composite's ID; an availability request and a pull, for all; UNKNOWN_OPERATION; a status of these services
abbrev pub says_up : ℕ → ℕ → OwedReply3
says_up n composite = record { number = n; means = PlatformStatus Up composite; tells = [] }

abbrev pub asks_for_all : ℕ → OwedReply3
asks_for_all n = record { number = n; means = AvailabilityStatusRequest 0xFFFFFFFF; tells = [] }

abbrev pub pulls_all : ℕ → OwedReply3
pulls_all n = record { number = n; means = VersionedDataPull 0xFFFFFFFF; tells = [] }

abbrev pub unknown_here : ℕ → ℕ → OwedReply3
unknown_here n id = record { number = n; means = UnknownOperation id; tells = [] }

abbrev pub tells_these : ℕ → List (ℕ × ℕ) → OwedReply3
tells_these n ps = record { number = n; means = AvailabilityStatus (length ps); tells = ps }

-- 001, 6.3, 2: DOWN to UP is answered with these three, in this order, which take the next three own numbers
abbrev pub starts_up : MixedCall → List OwedReply3
starts_up c =
    says_up c.standing.next c.composite
    ∷ asks_for_all (number_after c.standing.next)
    ∷ pulls_all (number_after (number_after c.standing.next)) ∷ []

abbrev pub up_before : MixedCall → Header3 → Bool
up_before c h = stands_up c.own c.standing.states h.platform

-- what is owed for a message of each kind. A reply to a request, a pull or an operation repeats its number. A pull of all owes nothing, and
-- the composite messages, SERVICE_NOT_AVAILABLE and what tells of services owe nothing
abbrev pub owed_for3 : MixedCall → Sections → Header3 → Message3 → List OwedReply3
owed_for3 c s h (PlatformStatus Up composite) = cond (up_before c h) [] (starts_up c)
owed_for3 c s h (PlatformStatus Down composite) = []
owed_for3 c s h PlatformStatusRequest = says_up h.sequence c.composite ∷ []
owed_for3 c s h (AvailabilityStatus n) = []
owed_for3 c s h (AvailabilityStatusRequest id) =
    tells_these h.sequence (cond (eqb id 0xFFFFFFFF) (all_ours c.ours) ((id, state_of_ours c.ours id) ∷ [])) ∷ []
owed_for3 c s h (UnknownOperation id) = []
owed_for3 c s h (ServiceNotAvailable id) = []
owed_for3 c s h (VersionedDataPull id) =
    cond (eqb id 0xFFFFFFFF) [] (cond (found_data c.table (operation_with c.table s id)) [] (unknown_here h.sequence id ∷ []))
owed_for3 c s h (CompositeChangeRequest composite) = []
owed_for3 c s h (CompositeChangeRequestAck a) = []
owed_for3 c s h Operation = cond (is_there (operation_with c.table s h.id)) [] (unknown_here h.sequence h.id ∷ [])

-- the state of platform k, and the next own number, after it
abbrev pub state_after3 : MixedCall → Header3 → Message3 → ℕ → Bool
state_after3 c h (PlatformStatus Up composite) k = cond (eqb k h.platform) true (stands_up c.own c.standing.states k)
state_after3 c h (PlatformStatus Down composite) k = cond (eqb k h.platform) false (stands_up c.own c.standing.states k)
state_after3 c h PlatformStatusRequest k = stands_up c.own c.standing.states k
state_after3 c h (AvailabilityStatus n) k = stands_up c.own c.standing.states k
state_after3 c h (AvailabilityStatusRequest id) k = stands_up c.own c.standing.states k
state_after3 c h (UnknownOperation id) k = stands_up c.own c.standing.states k
state_after3 c h (ServiceNotAvailable id) k = stands_up c.own c.standing.states k
state_after3 c h (VersionedDataPull id) k = stands_up c.own c.standing.states k
state_after3 c h (CompositeChangeRequest composite) k = stands_up c.own c.standing.states k
state_after3 c h (CompositeChangeRequestAck a) k = stands_up c.own c.standing.states k
state_after3 c h Operation k = stands_up c.own c.standing.states k

abbrev pub next_after3 : MixedCall → Header3 → Message3 → ℕ
next_after3 c h (PlatformStatus Up composite) =
    cond (up_before c h) c.standing.next (number_after (number_after (number_after c.standing.next)))
next_after3 c h (PlatformStatus Down composite) = c.standing.next
next_after3 c h PlatformStatusRequest = c.standing.next
next_after3 c h (AvailabilityStatus n) = c.standing.next
next_after3 c h (AvailabilityStatusRequest id) = c.standing.next
next_after3 c h (UnknownOperation id) = c.standing.next
next_after3 c h (ServiceNotAvailable id) = c.standing.next
next_after3 c h (VersionedDataPull id) = c.standing.next
next_after3 c h (CompositeChangeRequest composite) = c.standing.next
next_after3 c h (CompositeChangeRequestAck a) = c.standing.next
next_after3 c h Operation = c.standing.next

-- 001, Table 3: a message's ID; and with Table 4 how long it is, header and payload
abbrev pub id_in_table3 : Message3 → ℕ
id_in_table3 (PlatformStatus x composite) = 1
id_in_table3 PlatformStatusRequest = 2
id_in_table3 (AvailabilityStatus n) = 3
id_in_table3 (AvailabilityStatusRequest id) = 4
id_in_table3 (UnknownOperation id) = 5
id_in_table3 (ServiceNotAvailable id) = 6
id_in_table3 (VersionedDataPull id) = 7
id_in_table3 (CompositeChangeRequest composite) = 8
id_in_table3 (CompositeChangeRequestAck a) = 9
id_in_table3 Operation = 0

abbrev pub length_of3 : Message3 → ℕ
length_of3 (PlatformStatus x composite) = 32
length_of3 PlatformStatusRequest = 24
length_of3 (AvailabilityStatus n) = 28 + 8 * n
length_of3 (AvailabilityStatusRequest id) = 28
length_of3 (UnknownOperation id) = 28
length_of3 (ServiceNotAvailable id) = 28
length_of3 (VersionedDataPull id) = 28
length_of3 (CompositeChangeRequest composite) = 28
length_of3 (CompositeChangeRequestAck a) = 28
length_of3 Operation = 24

abbrev pub bytes_owed : List OwedReply3 → ℕ
bytes_owed [] = 0
bytes_owed (o ∷ os) = length_of3 o.means + bytes_owed os

-- the header of a reply: 001, Table 2, with our number and timestamp
abbrev pub reply_header3 : MixedCall → OwedReply3 → Header3
reply_header3 c o =
    record {
      domain = 0;
      platform = c.own;
      id = id_in_table3 o.means;
      seconds = c.stamp.seconds;
      nanoseconds = c.stamp.nanoseconds;
      payload_size = length_of3 o.means - 24;
      sequence = o.number;
    }

-- whoever has us set up as Issue 3 reads a reply as what is meant, and in it the services that it tells
pub record HeardAs3 (reader : ℕ) (c : MixedCall) (b : List ℕ) (o : OwedReply3) : Type 0 where
  pub reads : (i : List ℕ) → is_three i c.own ≡ true → any_of i reader b ≡ Three (reply_header3 c o) o.means 24 (length_of3 o.means - 24)
  pub told : Tells (drop 24 b) o.tells

-- just these replies, one behind another
abbrev pub AreReplies3 : ℕ → MixedCall → List ℕ → List OwedReply3 → Type 0
AreReplies3 reader c b [] = b ≡ []
AreReplies3 reader c b (o ∷ os) = HeardAs3 reader c (take (length_of3 o.means) b) o × AreReplies3 reader c (drop (length_of3 o.means) b) os
