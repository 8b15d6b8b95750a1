-- 01, "Platform states and replies", and demand 2 for replies. This platform is UP and the others start DOWN; a call that reads a
-- message notes what it says and writes the owed replies, each of which its receiver reads as what is meant; and two platforms
-- fall silent. The theorems are in proofs/Platforms.antt.
use Rattle.std.specs.Prelude.{ℕ, ◌+◌, ◌*◌, ◌%◌, ◌^◌, ◌≤◌, ◌<◌, ◌≡◌, Bool, true, false, cond, ◌||◌, List, [], ◌∷◌, eqb, leb, length, take, drop}
use Rattle.std.specs.Prelude.{Ok}
use Rattle.std.specs.Prelude.{Option, Some, None}
use Rattle.wire.specs.Bytes.{Octets}
use Rattle.table.specs.declared.Sections.{Sections}
use Rattle.operations.specs.Search.{operation_of}
use Rattle.types.specs.Table.{checked}
use Rattle.message.specs.declared.Header.{Header}
use Rattle.message.specs.declared.Status.TheVariants.{Down, Up}
use Rattle.message.specs.declared.Message.{Message}
use Rattle.message.specs.declared.Message.TheVariants as message
use Rattle.message.specs.declared.Reading.TheVariants.{Read}
use Rattle.message.specs.Reading.{read_of}
use Rattle.states.specs.declared.States.{States}
use Rattle.platform.specs.declared.reactions.Standing.{Standing}
use Rattle.platform.specs.declared.reactions.Heard.{Heard}
use Rattle.platform.specs.declared.Noting.TheVariants.{Refused, Noted}
use Rattle.platform.specs.declared.Received.{Received}
use Rattle.states.specs.States.{stands_up, how_many_up, count_below, Words}
use Rattle.platform.specs.Reaction.{some_data, found_data}
use Rattle.platform.specs.Receiving.{fresh_standing, received_of, left_of, list_after}
use Rattle.platform.specs.Exchange.{Pair, Exchange, started}
use Rattle.promises.specs.Reports.{Reports, IsKind2}

-- "the states can be asked for one by one, or as how many of the 256 are UP, this one counted"
pub record StatesAre : Type 0 where
  pub own_is_up : (own : ℕ) (s : States) → stands_up own s own ≡ true
  pub others_start_down : (own k : ℕ) → own < 256 → k < 256 → (k ≡ own → ⊥) → stands_up own (fresh_standing own).states k ≡ false
  pub none_above_255 : (own : ℕ) (s : States) (k : ℕ) → own < 256 → 256 ≤ k → stands_up own s k ≡ false
  pub numbers_start_at_0 : (own : ℕ) → (fresh_standing own).next ≡ 0
  pub counted : (own : ℕ) (s : States) → own < 256 → Words s → how_many_up own s ≡ count_below (stands_up own s) 256

-- a reply: its sequence number, and what it means
pub record OwedReply : Type 0 where
  pub number : ℕ
  pub means : Message

-- the operation of an ID: the first that a plain scan of the table meets
abbrev pub operation_with : List ℕ → Sections → ℕ → Option (ℕ × ℕ)
operation_with t s id = operation_of t s.operations.at s.operations.count id

-- the ID is versioned data here; 0xFFFFFFFF is all of it, where there is any (000, Table 4)
abbrev pub versioned_here : List ℕ → Sections → ℕ → Bool
versioned_here t s id = cond (eqb id 0xFFFFFFFF) (some_data t s) (found_data t (operation_with t s id))

abbrev pub is_there : Option (ℕ × ℕ) → Bool
is_there (Some (i, p)) = true
is_there None = false

-- "after 0xFFFFFFFF comes 0"
abbrev pub number_after : ℕ → ℕ
number_after n = (n + 1) % 2 ^ 32

-- UP from a platform that is UP already, or above 255, where no state is kept, changes nothing
abbrev pub no_news : ℕ → Standing → Header → Bool
no_news own p h = stands_up own p.states h.platform || leb 256 h.platform

-- what is owed for a message of each kind: "The pair at DOWN to UP take the platform's next two own numbers", and "a reply to a
-- request, a pull or an operation repeats its sequence number"
abbrev pub owed_for : ℕ → List ℕ → Sections → Standing → Header → Message → List OwedReply
owed_for own t s p h (message.PlatformStatus Up) =
    cond (no_news own p h) []
    (record { number = p.next; means = message.PlatformStatus Up }
    ∷ record { number = number_after p.next; means = message.VersionedDataPull 0xFFFFFFFF } ∷ [])
owed_for own t s p h (message.PlatformStatus Down) = []
owed_for own t s p h message.PlatformStatusRequest = record { number = h.sequence; means = message.PlatformStatus Up } ∷ []
owed_for own t s p h (message.UnknownOperation id) = []
owed_for own t s p h (message.VersionedDataPull id) =
    cond (versioned_here t s id) [] (record { number = h.sequence; means = message.UnknownOperation id } ∷ [])
owed_for own t s p h message.Operation =
    cond (is_there (operation_with t s h.id)) [] (record { number = h.sequence; means = message.UnknownOperation h.id } ∷ [])

-- the state of platform k, and the next own number, after it
abbrev pub state_after : ℕ → Standing → Header → Message → ℕ → Bool
state_after own p h (message.PlatformStatus Up) k = cond (eqb k h.platform) true (stands_up own p.states k)
state_after own p h (message.PlatformStatus Down) k = cond (eqb k h.platform) false (stands_up own p.states k)
state_after own p h message.PlatformStatusRequest k = stands_up own p.states k
state_after own p h (message.UnknownOperation id) k = stands_up own p.states k
state_after own p h (message.VersionedDataPull id) k = stands_up own p.states k
state_after own p h message.Operation k = stands_up own p.states k

abbrev pub next_after : ℕ → Standing → Header → Message → ℕ
next_after own p h (message.PlatformStatus Up) = cond (no_news own p h) p.next (number_after (number_after p.next))
next_after own p h (message.PlatformStatus Down) = p.next
next_after own p h message.PlatformStatusRequest = p.next
next_after own p h (message.UnknownOperation id) = p.next
next_after own p h (message.VersionedDataPull id) = p.next
next_after own p h message.Operation = p.next

-- a reply is 24 bytes long; its receiver reads it as what is meant, from this platform and with its number
abbrev pub reply_length : ℕ
reply_length = 24

pub record HeardAs (reader own : ℕ) (b : List ℕ) (o : OwedReply) : Type 0 where
  pub header : Header
  pub reads : read_of reader b ≡ Read header o.means 20 4
  pub sender : header.platform ≡ own
  pub number : header.sequence ≡ o.number

-- just these replies, one behind another
abbrev pub AreReplies : ℕ → ℕ → List ℕ → List OwedReply → Type 0
AreReplies reader own b [] = b ≡ []
AreReplies reader own b (o ∷ os) = HeardAs reader own (take reply_length b) o × AreReplies reader own (drop reply_length b) os

-- a call that reads a message with this header and of this kind. A domain 1 message with a kind 2 ID is a response, or is refused with
-- 61 (specs/Responses)
pub record Receives (own : ℕ) (t : List ℕ) (s : Sections) (p : Standing) (m : List ℕ) (h : Header) (kind : Message) : Type 0 where
  pub platform : own < 256
  pub next : p.next < 2 ^ 32
  pub bytes : Octets m
  pub table : checked t ≡ Ok s
  pub start : ℕ
  pub len : ℕ
  pub read : read_of own m ≡ Read h kind start len
  pub no_response : kind ≡ message.Operation → ¬ (IsKind2 t s h.id)

-- a platform, ours or any other, with its states and its list of pending requests: what its call answers and keeps, and what it leaves
-- in the output and in the list
pub record Receiving : Type 0 where
  pub outcome : ℕ → List ℕ → Standing → List ℕ → List ℕ → ℕ → Received
  pub left : ℕ → List ℕ → Standing → List ℕ → List ℕ → List ℕ → List ℕ
  pub list : ℕ → List ℕ → Standing → List ℕ → List ℕ → ℕ → List ℕ

abbrev pub our_receiving : Receiving
our_receiving = record { outcome = received_of; left = λ own t p l m out. left_of own t p m out; list = λ own t p l m room. list_after own t l m }

-- what it comes to where the n bytes of replies fit: "One call reads a message, notes the state and writes the owed replies". What was
-- heard is what 01 says for a message of this kind (specs/Reports); and no request was answered
pub record NotesBy (X : Receiving) (own : ℕ) (t : List ℕ) (s : Sections) (p : Standing) (l m out : List ℕ) (h : Header) (kind : Message)
    (n : ℕ) : Type 0 where
  pub heard : Heard
  pub answer : (X.outcome own t p l m (length out)).answer ≡ Noted h heard n
  pub reports : Reports t s h m kind heard
  pub written : AreReplies h.platform own (take n (X.left own t p l m out)) (owed_for own t s p h kind)
  pub rest : drop n (X.left own t p l m out) ≡ drop n out
  pub next : (X.outcome own t p l m (length out)).standing.next ≡ next_after own p h kind
  pub states : (k : ℕ) → k < 256 → stands_up own (X.outcome own t p l m (length out)).standing.states k ≡ state_after own p h kind k
  pub list : X.list own t p l m (length out) ≡ l

abbrev pub Notes : ℕ → List ℕ → Sections → Standing → List ℕ → List ℕ → List ℕ → Header → Message → ℕ → Type 0
Notes own t s p l m out h kind n = NotesBy our_receiving own t s p l m out h kind n

-- and where they don't, "it is 10"
pub record RepliesBy (X : Receiving) : Type 0 where
  pub fit : (own : ℕ) (t : List ℕ) (s : Sections) (p : Standing) (l m out : List ℕ) (h : Header) (kind : Message) →
      Receives own t s p m h kind → reply_length * length (owed_for own t s p h kind) ≤ length out →
      NotesBy X own t s p l m out h kind (reply_length * length (owed_for own t s p h kind))
  pub do_not_fit : (own : ℕ) (t : List ℕ) (s : Sections) (p : Standing) (l m out : List ℕ) (h : Header) (kind : Message) →
      Receives own t s p m h kind → length out < reply_length * length (owed_for own t s p h kind) →
      (X.outcome own t p l m (length out)).answer ≡ Refused 10

abbrev pub Replies : Type 0
Replies = RepliesBy our_receiving

-- "two platforms would answer for ever": they do not. From any two states, whatever their tables and outputs, in whatever order
-- messages arrive and whichever are lost, an exchange that one status starts ends after at most seven, with none under way
pub record Starts (a b : ℕ) (p q : Standing) (number : ℕ) : Type 0 where
  pub one : a < 256
  pub other : b < 256
  pub two : a ≡ b → ⊥
  pub next_of_one : p.next < 2 ^ 32
  pub next_of_other : q.next < 2 ^ 32
  pub number_fits : number < 2 ^ 32

pub record FallSilent : Type 0 where
  pub at_most : (a b : ℕ) (p q : Standing) (number : ℕ) → Starts a b p q number →
      (n : ℕ) (z : Pair) → Exchange a b n (started p q number) z → n ≤ 7
  pub then_none : (a b : ℕ) (p q : Standing) (number : ℕ) → Starts a b p q number →
      (z : Pair) → Exchange a b 7 (started p q number) z → (z.to_a ≡ []) × (z.to_b ≡ [])
  -- and seven are reached: two that start, neither of which provides versioned data
  pub reached : (z : Pair) × Exchange 1 2 7 (started (fresh_standing 1) (fresh_standing 2) 0) z
