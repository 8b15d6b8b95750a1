-- 02, request 8, theorem 6: what the platform call answers to a message of Issue 3. The owed replies (specs/Owed3), just these and in this
-- order, at the output's start; what was heard; the states and the next own number; 10 where they do not fit, and 5 where our services pass
-- the size field. Ruled out, and refuted in specs/WrongReplies3: the pull before the availability request; two own numbers at start-up; a
-- request answered with an own number; a service that is not ours unanswered; a composite change acknowledged; UP to UP answered; a reply
-- with Issue 6's header. The theorem is in proofs/Replies3.antt.
use Prim.{Unit}
use Rattle.std.specs.Prelude.{Ok}
use Rattle.std.specs.Prelude.{ℕ, ◌+◌, ◌^◌, ◌≤◌, ◌<◌, ◌≡◌, Bool, true, false, List, length, take, drop}
use Rattle.wire.specs.Bytes.{Octets}
use Rattle.table.specs.declared.Sections.{Sections}
use Rattle.types.specs.Table.{checked}
use Rattle.message.specs.declared.Status.TheVariants.{Down, Up}
use Rattle.message3.specs.declared.Header3.{Header3}
use Rattle.message3.specs.declared.Message3.{Message3}
use Rattle.message3.specs.declared.Message3.TheVariants as message3
use Rattle.services.specs.Block.{note_refusal}
use Rattle.partners.specs.Threes.{block_start}
use Rattle.states.specs.States.{stands_up}
use Rattle.mixed.specs.declared.AnyReading.TheVariants as reading
use Rattle.mixed.specs.declared.AnyAnswer.TheVariants.{Refused, Three}
use Rattle.mixed.specs.declared.AnyReceived.{AnyReceived}
use Rattle.mixed.specs.declared.reactions.Heard3.{Heard3}
use Rattle.mixed.specs.Reading.{any_of}
use Rattle.mixed.specs.Tables.{answer_if, out_if, pending_if, words_if}
use Rattle.promises.specs.Reports.{IsKind2}
use Rattle.promises.specs.Reports3.{Reports3}
use Rattle.promises.specs.Owed3.{MixedCall, up_before, owed_for3, state_after3, next_after3, bytes_owed, AreReplies3}

-- a platform, ours or any other: what its call answers and keeps, and what it leaves in the output, in the list of pending requests, and
-- in the words of the partners' services
pub record Receiving3 : Type 0 where
  pub outcome : MixedCall → AnyReceived
  pub left : MixedCall → List ℕ
  pub list : MixedCall → List ℕ
  pub words : MixedCall → List ℕ

abbrev pub our_outcome : MixedCall → AnyReceived
our_outcome c =
    answer_if (checked c.table) c.own c.partners c.ours c.table c.standing c.pending c.services c.message (length c.output)

abbrev pub our_output : MixedCall → List ℕ
our_output c =
    out_if (checked c.table) c.own c.stamp c.composite c.partners c.ours c.table c.standing c.services c.message c.output

abbrev pub our_list : MixedCall → List ℕ
our_list c = pending_if (checked c.table) c.own c.partners c.table c.pending c.message

abbrev pub our_words : MixedCall → List ℕ
our_words c =
    words_if (checked c.table) c.own c.partners c.ours c.table c.standing c.services c.message (length c.output)

abbrev pub our_receiving3 : Receiving3
our_receiving3 = record { outcome = our_outcome; left = our_output; list = our_list; words = our_words }

-- the numbers that a call is handed are as wide as their arguments
pub record Widths (c : MixedCall) : Type 0 where
  pub platform : c.own < 256
  pub next : c.standing.next < 2 ^ 32
  pub seconds : c.stamp.seconds < 2 ^ 32
  pub nanoseconds : c.stamp.nanoseconds < 2 ^ 32
  pub composite : c.composite < 2 ^ 32

-- a call that reads a message of Issue 3 with this header and of this kind. A domain 1 message with a kind 2 ID is a response, or is refused
-- with 61
pub record Receives3 (c : MixedCall) (s : Sections) (h : Header3) (kind : Message3) : Type 0 where
  pub widths : Widths c
  pub bytes : Octets c.message
  pub table : checked c.table ≡ Ok s
  pub start : ℕ
  pub len : ℕ
  pub read : any_of c.partners c.own c.message ≡ reading.Three h kind start len
  pub no_response : kind ≡ message3.Operation → ¬ (IsKind2 c.table s h.id)

-- messages that change what is known of their sender's services, and what they need of its block: that it is there, and of a status that it
-- takes the services told. What they leave there is said by theorem 5
abbrev pub moves_services : MixedCall → Header3 → Message3 → Bool
moves_services c h (message3.PlatformStatus Up composite) = false
moves_services c h (message3.PlatformStatus Down composite) = up_before c h
moves_services c h message3.PlatformStatusRequest = false
moves_services c h (message3.AvailabilityStatus n) = true
moves_services c h (message3.AvailabilityStatusRequest id) = false
moves_services c h (message3.UnknownOperation id) = false
moves_services c h (message3.ServiceNotAvailable id) = false
moves_services c h (message3.VersionedDataPull id) = false
moves_services c h (message3.CompositeChangeRequest composite) = false
moves_services c h (message3.CompositeChangeRequestAck a) = false
moves_services c h message3.Operation = false

abbrev pub IsThere : MixedCall → ℕ → Type 0
IsThere c k = block_start c.partners k + 256 ≤ length c.services

abbrev pub block_at : MixedCall → ℕ → List ℕ → List ℕ
block_at c k ws = take 256 (drop (block_start c.partners k) ws)

abbrev pub BlockTakes : MixedCall → Header3 → Message3 → Type 0
BlockTakes c h (message3.PlatformStatus Up composite) = Unit {0}
BlockTakes c h (message3.PlatformStatus Down composite) = up_before c h ≡ true → IsThere c h.platform
BlockTakes c h message3.PlatformStatusRequest = Unit {0}
BlockTakes c h (message3.AvailabilityStatus n) =
    IsThere c h.platform × (note_refusal (block_at c h.platform c.services) (drop 24 c.message) ≡ 0)
BlockTakes c h (message3.AvailabilityStatusRequest id) = Unit {0}
BlockTakes c h (message3.UnknownOperation id) = Unit {0}
BlockTakes c h (message3.ServiceNotAvailable id) = Unit {0}
BlockTakes c h (message3.VersionedDataPull id) = Unit {0}
BlockTakes c h (message3.CompositeChangeRequest composite) = Unit {0}
BlockTakes c h (message3.CompositeChangeRequestAck a) = Unit {0}
BlockTakes c h message3.Operation = Unit {0}

-- what it comes to where the n bytes of replies fit
pub record NotesBy3 (X : Receiving3) (c : MixedCall) (s : Sections) (h : Header3) (kind : Message3) (n : ℕ) : Type 0 where
  pub heard : Heard3
  pub answer : (X.outcome c).answer ≡ Three h heard n
  pub reports : Reports3 c.table s h c.message kind heard
  pub written : AreReplies3 h.platform c (take n (X.left c)) (owed_for3 c s h kind)
  pub rest : drop n (X.left c) ≡ drop n c.output
  pub next : (X.outcome c).standing.next ≡ next_after3 c h kind
  pub states : (k : ℕ) → k < 256 → stands_up c.own (X.outcome c).standing.states k ≡ state_after3 c h kind k
  pub list : X.list c ≡ c.pending
  pub services : moves_services c h kind ≡ false → X.words c ≡ c.services

-- a refusal, which changes nothing
pub record RefusesBy3 (X : Receiving3) (c : MixedCall) (n : ℕ) : Type 0 where
  pub answer : (X.outcome c).answer ≡ Refused n
  pub standing : (X.outcome c).standing ≡ c.standing
  pub output : X.left c ≡ c.output
  pub list : X.list c ≡ c.pending
  pub services : X.words c ≡ c.services

-- all our services, asked for: fewer than the size field can tell
abbrev pub Countable : MixedCall → Message3 → Type 0
Countable c kind = kind ≡ message3.AvailabilityStatusRequest 0xFFFFFFFF → length c.ours < 2 ^ 29

pub record RepliesBy3 (X : Receiving3) : Type 0 where
  pub fit : (c : MixedCall) (s : Sections) (h : Header3) (kind : Message3) → Receives3 c s h kind → Countable c kind → BlockTakes c h kind →
      bytes_owed (owed_for3 c s h kind) ≤ length c.output → NotesBy3 X c s h kind (bytes_owed (owed_for3 c s h kind))
  pub do_not_fit : (c : MixedCall) (s : Sections) (h : Header3) (kind : Message3) → Receives3 c s h kind → Countable c kind →
      length c.output < bytes_owed (owed_for3 c s h kind) → RefusesBy3 X c 10
  pub too_many : (c : MixedCall) (s : Sections) (h : Header3) → Receives3 c s h (message3.AvailabilityStatusRequest 0xFFFFFFFF) →
      2 ^ 29 ≤ length c.ours → RefusesBy3 X c 5

abbrev pub Replies3 : Type 0
Replies3 = RepliesBy3 our_receiving3
