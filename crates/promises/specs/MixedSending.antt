-- 02, request 8, and request 1's calls: a request is written in its target's issue. It is said of any program that sends, so that wrong ones
-- can be shown not to meet it (WrongAsking); of the call as programs in C have it, specs/LinkedSending. Limits and numbers stand here as the
-- papers have them. The theorem is in proofs/MixedSending.antt.
use Rattle.std.specs.Prelude.{ℕ, ◌+◌, ◌%◌, ◌^◌, ◌≤◌, ◌<◌, ◌≡◌, true, false, List, [], ◌∷◌, length, take, drop}
use Rattle.message3.specs.declared.Stamp.{Stamp}
use Rattle.message3.specs.declared.Header3.{Header3}
use Rattle.message3.specs.declared.Message3.TheVariants.{Operation}
use Rattle.message3.specs.declared.Reading3.TheVariants.{Read}
use Rattle.message3.specs.Reading.{read_of3, payload_of3}
use Rattle.partners.specs.Threes.{is_three}
use Rattle.mixed.specs.declared.AnyReading.TheVariants.{Refused, Three}
use Rattle.mixed.specs.Reading.{any_of}
use Rattle.pending.specs.Places.{number_at, free_place, entered_at}
use Rattle.pending.specs.Free.{next_free}
use Rattle.requests.specs.declared.Issue.{Issue}
use Rattle.requests.specs.declared.Sending.{Sending}
use Rattle.requests.specs.declared.Sent.TheVariants.{Under}
use Rattle.requests.specs.Sending.{sent_for, list_sent_for, output_sent_for, sent_of, list_sent, output_sent, number_given}
use Rattle.mixed_words.specs.SendCalls.{issue_for}
use Rattle.promises.specs.Checks.{Check, ◌when◌, Answers, Keeps}
use Rattle.promises.specs.Requests.{not_sent}

-- what a program is handed that sends a request: the timestamp, who speaks Issue 3, the next own number and the list of the requests that
-- are pending, the kind of the operation, its ID, the target, the payload and the output
pub record ToSend : Type 0 where
  pub own : ℕ
  pub stamp : Stamp
  pub partners : List ℕ
  pub next : ℕ
  pub list : List ℕ
  pub kind : ℕ
  pub id : ℕ
  pub target : ℕ
  pub payload : List ℕ
  pub out : List ℕ

-- such a program, ours or any other: what it answers, and what it leaves in the list and in the output
pub record Asking : Type 0 where
  pub answers : ToSend → Sending
  pub lists : ToSend → List ℕ
  pub outputs : ToSend → List ℕ

abbrev pub issue_in : ToSend → Issue
issue_in x = issue_for x.partners x.stamp x.target

abbrev pub our_asking : Asking
our_asking =
    record {
      answers = λ x. sent_for (issue_in x) x.next x.list x.kind x.id x.payload (length x.out);
      lists = λ x. list_sent_for (issue_in x) x.next x.list x.kind x.id x.target x.payload (length x.out);
      outputs = λ x. output_sent_for (issue_in x) x.own x.next x.list x.kind x.id x.payload x.out;
    }

-- as request 1's call, refusals too
pub record AsForSix (P : Asking) (x : ToSend) : Type 0 where
  pub answer : P.answers x ≡ sent_of x.next x.list x.kind x.id x.payload (length x.out)
  pub list : P.lists x ≡ list_sent x.next x.list x.kind x.id x.target x.payload (length x.out)
  pub output : P.outputs x ≡ output_sent x.own x.next x.list x.kind x.id x.payload x.out

-- "Sending under an ID that isn't kind 2 is 62, checked first, 60 next, then 01's writing numbers": 10 by Issue 3's header
abbrev pub send_checks3 : List ℕ → ℕ → List ℕ → ℕ → List Check
send_checks3 l kind payload room =
    62 when (¬ (kind ≡ 2))
    ∷ 60 when ((k : ℕ) → k < 64 → ¬ (number_at l k ≡ 0))
    ∷ 5 when (2 ^ 32 ≤ length payload)
    ∷ 10 when (room < 24 + length payload)
    ∷ []

-- "a sequence number counts on for all partners": the next number that is free, as in request 1
abbrev pub sent_as3 : ℕ → List ℕ → List ℕ → Sending
sent_as3 next l payload = record { next = (next_free l next + 1) % 2 ^ 32; answer = Under (next_free l next) (24 + length payload) }

-- the header of a request of number n: 001, Table 2
abbrev pub header_sent3 : ToSend → ℕ → Header3
header_sent3 x n =
    record {
      domain = 1;
      platform = x.own;
      id = x.id;
      seconds = x.stamp.seconds;
      nanoseconds = x.stamp.nanoseconds;
      payload_size = length x.payload;
      sequence = n;
    }

-- what another platform reads of the bytes: an operation with that ID, number, timestamp and payload from us, where it has us as Issue 3;
-- where it has us as Issue 6 it refuses them with 3
pub record Arrives3 (x : ToSend) (n reader : ℕ) (bytes : List ℕ) : Type 0 where
  pub heard : read_of3 reader bytes ≡ Read (header_sent3 x n) Operation 24 (length x.payload)
  pub handed : payload_of3 bytes (read_of3 reader bytes) ≡ x.payload
  pub told : (i : List ℕ) → is_three i x.own ≡ true → any_of i reader bytes ≡ Three (header_sent3 x n) Operation 24 (length x.payload)
  pub elsewhere : (i : List ℕ) → is_three i x.own ≡ false → any_of i reader bytes ≡ Refused 3

-- the numbers are as wide as their fields
pub record Narrow (x : ToSend) : Type 0 where
  pub id_fits : x.id < 2 ^ 32
  pub next_fits : x.next < 2 ^ 32
  pub seconds_fit : x.stamp.seconds < 2 ^ 32
  pub nanoseconds_fit : x.stamp.nanoseconds < 2 ^ 32

abbrev pub ToSix : ToSend → Type 0
ToSix x = is_three x.partners x.target ≡ false

abbrev pub ToThree : ToSend → Type 0
ToThree x = is_three x.partners x.target ≡ true

abbrev pub given : Asking → ToSend → ℕ
given P x = number_given (P.answers x).answer

-- Ruled out: the form by our own bit of the set-up, or by none; 20 bytes of header for both; seconds for nanoseconds; an own number that is
-- drawn, or a request that is entered, though it is refused; a target above 255 taken for the one of its last byte.
pub record SendsByIssue (P : Asking) : Type 1 where
  -- "Issue 6 if unsaid"
  pub as_before : (x : ToSend) → ToSix x → AsForSix P x
  pub above : (x : ToSend) → 256 ≤ x.target → AsForSix P x
  pub order : (x : ToSend) → ToThree x →
      Answers (not_sent x.next) (sent_as3 x.next x.list x.payload) (send_checks3 x.list x.kind x.payload (length x.out)) (P.answers x)
  -- a refusal changes nothing, whoever the target is
  pub next_kept : (x : ToSend) → Keeps (given P x) x.next (P.answers x).next
  pub list_kept : (x : ToSend) → Keeps (given P x) x.list (P.lists x)
  pub output_kept : (x : ToSend) → Keeps (given P x) x.out (P.outputs x)
  -- a request that is sent is entered, and its message stands at the output's start
  pub entered : (x : ToSend) → ToThree x → given P x ≡ 0
      → P.lists x ≡ entered_at x.list (free_place x.list) (next_free x.list x.next) x.id x.target
  pub arrives : (x : ToSend) (reader : ℕ) → ToThree x → Narrow x → ¬ (x.own ≡ reader) → given P x ≡ 0
      → Arrives3 x (next_free x.list x.next) reader (take (24 + length x.payload) (P.outputs x))
  pub behind : (x : ToSend) → ToThree x → given P x ≡ 0
      → drop (24 + length x.payload) (P.outputs x) ≡ drop (24 + length x.payload) x.out
