-- 01, "Platform states and replies", of the calls as programs in C have them (include/nyrkovash.h), over their very contracts: the
-- owed replies at the output's start, the platform's words, and in eight words what was heard. Messages with a kind 2 ID are in
-- specs/LinkedResponses. The theorems are in proofs/LinkedReplies.antt.
use Rattle.std.specs.Prelude.{ℕ, ◌-◌, ◌*◌, ◌≤◌, ◌<◌, ◌≡◌, Bool, cond, List, [], ◌∷◌, ◌++◌, eqb, ltb, length, get_or, take, drop, replicate}
use Rattle.std.specs.Prelude.{Ok}
use Rattle.std.specs.Prelude.{Option, Some, None}
use Rattle.wire.specs.Bytes.{Octets}
use Rattle.table.specs.declared.Sections.{Sections}
use Rattle.table.specs.Words.{words_of}
use Rattle.types.specs.Table.{checked}
use Rattle.message.specs.declared.Header.{Header}
use Rattle.message.specs.declared.Message.{Message}
use Rattle.message.specs.declared.Message.TheVariants as message
use Rattle.message.specs.declared.Reading.TheVariants.{Read}
use Rattle.message.specs.Platform.{status_value}
use Rattle.message.specs.Reading.{read_of}
use Rattle.platform_words.specs.Words.{standing_in}
use Rattle.platform_words.specs.TableCalls.{receive_number, receive_words, receive_output, receive_heard}
use Rattle.nyrkovash.proofs.nyr_start.Reads.{Post as nyr-start}
use Rattle.nyrkovash.proofs.nyr_receive.Reads.{Post as nyr-receive}
use Rattle.nyrkovash.proofs.nyr_receive_in.Reads.{Post as nyr-receive-in}
use Rattle.nyrkovash.proofs.nyr_is_up.Reads.{Post as nyr-is-up}
use Rattle.promises.specs.Lookups.{laid}
use Rattle.promises.specs.Reports.{IsKind2}
use Rattle.promises.specs.Platforms.{operation_with, versioned_here, is_there, owed_for, state_after, next_after, AreReplies}
use Rattle.promises.specs.LinkedPayloads.{Whenever}

-- whoever asks these words whether a platform is UP is told so: 1 or 0, and 0 above 255
abbrev pub UpIs : ℕ → List ℕ → (ℕ → Bool) → Type 0
UpIs own ws up =
    Whenever nyr-is-up (λ k a n e. a.0 ≡ own → a.1.0.now ≡ ws → n ≡ cond (ltb a.1.1.0 256) (cond (up a.1.1.0) 1 0) 0)

-- what was heard: the kind of it, its value, sender and sequence number of the message, the operation's entry in the table, where its
-- payload starts and how long it is, and the bytes of replies
abbrev pub heard_is : Header → ℕ → ℕ → ℕ → ℕ → ℕ → ℕ → List ℕ
heard_is h n kind value entry start len = kind ∷ value ∷ h.platform ∷ h.sequence ∷ entry ∷ start ∷ len ∷ n ∷ []

abbrev pub entry_of : Option (ℕ × ℕ) → ℕ
entry_of (Some (i, p)) = i
entry_of None = 0

-- 1 a status, 2 a request for it, 3 an operation that the sender doesn't know, 4 a pull of all versioned data, 5 of one, 6 of what is
-- none here, 7 an operation, 8 one that is not in the table
abbrev pub heard_for : List ℕ → Sections → List ℕ → Header → ℕ → Message → List ℕ
heard_for t s m h n (message.PlatformStatus x) = heard_is h n 1 (status_value x) 0 0 0
heard_for t s m h n message.PlatformStatusRequest = heard_is h n 2 0 0 0 0
heard_for t s m h n (message.UnknownOperation id) = heard_is h n 3 id 0 0 0
heard_for t s m h n (message.VersionedDataPull id) =
    cond (versioned_here t s id) (cond (eqb id 0xFFFFFFFF) (heard_is h n 4 0 0 0 0) (heard_is h n 5 id (entry_of (operation_with t s id)) 0 0))
    (heard_is h n 6 id 0 0 0)
heard_for t s m h n message.Operation =
    cond (is_there (operation_with t s h.id)) (heard_is h n 7 h.id (entry_of (operation_with t s h.id)) 20 (length m - 20))
    (heard_is h n 8 h.id 0 0 0)

-- a platform of this number reads the message, with this header and of this kind, and its table is one that may be used
pub record Comes (own : ℕ) (t : List ℕ) (s : Sections) (m : List ℕ) (h : Header) (kind : Message) : Type 0 where
  pub platform : own < 256
  pub bytes : Octets m
  pub table : checked t ≡ Ok s
  pub start : ℕ
  pub len : ℕ
  pub read : read_of own m ≡ Read h kind start len
  pub no_response : kind ≡ message.Operation → ¬ (IsKind2 t s h.id)

-- the 24 bytes of each reply that is owed, for a platform in these words
abbrev pub owed_bytes : ℕ → List ℕ → List ℕ → Sections → Header → Message → ℕ
owed_bytes own ws t s h kind = 24 * length (owed_for own t s (standing_in ws) h kind)

-- a call that gives back this number, and leaves these words of the platform, this output and these words of what was heard, says so
pub record Says (own : ℕ) (ws t : List ℕ) (s : Sections) (m out : List ℕ) (h : Header) (kind : Message) (n : ℕ) (after left heard : List ℕ) : Type 0 where
  pub number : n ≡ 0
  -- just the owed replies, as the message's sender reads them, and the rest of the output as it was
  pub replies : AreReplies h.platform own (take (owed_bytes own ws t s h kind) left) (owed_for own t s (standing_in ws) h kind)
  pub rest : drop (owed_bytes own ws t s h kind) left ≡ drop (owed_bytes own ws t s h kind) out
  pub heard-is : heard ≡ heard_for t s m h (owed_bytes own ws t s h kind) kind
  -- the states and the next own sequence number after it; the requests that are pending stay so
  pub states : UpIs own after (state_after own (standing_in ws) h kind)
  pub next : get_or after 4 0 ≡ next_after own (standing_in ws) h kind
  pub pending : drop 5 after ≡ drop 5 ws

-- where the replies fit it says so; where they don't, "it is 10"
pub record Answered (own : ℕ) (ws t : List ℕ) (s : Sections) (m out : List ℕ) (h : Header) (kind : Message) (n : ℕ) (after left heard : List ℕ) : Type 0 where
  pub fit : owed_bytes own ws t s h kind ≤ length out → Says own ws t s m out h kind n after left heard
  pub do_not_fit : length out < owed_bytes own ws t s h kind → n ≡ 10

-- what `nyr_check_table` leaves of words that have room for the index (specs/LinkedPayloads, `check`)
abbrev pub CheckLeft : List ℕ → Sections → List ℕ → List ℕ → Type 0
CheckLeft t s words ss = (ss ≡ words_of s ++ laid t s words) × (s.operations.count ≤ length words)

-- as `nyr_receive` has it
abbrev pub AsOnBytes : ℕ → List ℕ → List ℕ → List ℕ → List ℕ → List ℕ → ℕ → List ℕ → List ℕ → List ℕ → Type 0
AsOnBytes own ws t m out was n after left heard =
    (n ≡ receive_number own ws t m out) × (after ≡ receive_words own ws t m out)
    × (left ≡ receive_output own ws t m out) × (heard ≡ receive_heard own ws t m out was)

pub record LinkedReplies : Type 0 where
  -- this platform is UP, the others start DOWN, own numbers start at 0, and nothing is pending
  pub start : Whenever nyr-start (λ k a n e. a.0 < 256 →
      (n ≡ 0) × UpIs a.0 e.1.0.now (λ who. eqb who a.0) × (get_or e.1.0.now 4 0 ≡ 0) × (drop 5 e.1.0.now ≡ replicate 128 0))
  pub receive : (s : Sections) (h : Header) (kind : Message) → Whenever nyr-receive (λ k a n e.
      Comes a.0 a.1.1.0.now s a.1.1.1.0.now h kind →
      Answered a.0 a.1.0.now a.1.1.0.now s a.1.1.1.0.now a.1.1.1.1.0.now h kind n
      e.1.0.now e.1.1.1.1.0.now e.1.1.1.1.1.0.now)
  -- with the words that the check left for the table: its sections, and behind them the index of its operations
  pub receive-in : (s : Sections) (h : Header) (kind : Message) (words : List ℕ) → Whenever nyr-receive-in (λ k a n e.
      Comes a.0 a.1.1.0.now s a.1.1.1.1.0.now h kind → CheckLeft a.1.1.0.now s words a.1.1.1.0.now →
      Answered a.0 a.1.0.now a.1.1.0.now s a.1.1.1.1.0.now a.1.1.1.1.1.0.now h kind n
      e.1.0.now e.1.1.1.1.1.0.now e.1.1.1.1.1.1.0.now)
  -- whatever the message, the call on those words gives back and leaves what the call on table bytes does
  pub alike : (s : Sections) (words : List ℕ) → Whenever nyr-receive-in (λ k a n e.
      checked a.1.1.0.now ≡ Ok s → CheckLeft a.1.1.0.now s words a.1.1.1.0.now →
      AsOnBytes a.0 a.1.0.now a.1.1.0.now a.1.1.1.1.0.now a.1.1.1.1.1.0.now a.1.1.1.1.1.1.0.now n
      e.1.0.now e.1.1.1.1.1.0.now e.1.1.1.1.1.1.0.now)
