-- 02, request 1: what is sent, on a table that `check` accepts; and a request that one platform asks and another serves, with its
-- response. The theorems are in proofs/AskedAndAnswered.antt.
use Rattle.std.specs.Prelude.{ℕ, ◌+◌, ◌^◌, ◌≤◌, ◌<◌, ◌≡◌, List, [], ◌∷◌, length, take}
use Rattle.std.specs.Prelude.{Ok}
use Rattle.std.specs.Prelude.{None}
use Rattle.wire.specs.Bytes.{part}
use Rattle.table.specs.declared.Sections.{Sections}
use Rattle.types.specs.Table.{checked}
use Rattle.message.specs.declared.Header.{Header}
use Rattle.message.specs.Writing.{header_for, output_after}
use Rattle.pending.specs.Places.{number_at}
use Rattle.pending.specs.Free.{next_free}
use Rattle.pending.specs.Answers.{awaited_of}
use Rattle.requests.specs.declared.Sent.TheVariants.{Under}
use Rattle.requests.specs.Sending.{sent_of, list_sent, output_sent}
use Rattle.platform.specs.declared.reactions.Standing.{Standing}
use Rattle.platform.specs.declared.reactions.Heard.TheVariants.{Operation}
use Rattle.platform.specs.declared.Noting.TheVariants.{Refused, Noted, Response}
use Rattle.platform.specs.Receiving.{received_of, left_of, list_after}
use Rattle.promises.specs.Checks.{Check, ◌when◌, Answers}
use Rattle.promises.specs.Requests.{not_sent, sent_as, Arrives}
use Rattle.promises.specs.RequestCalls.{HasKind, kind_in}

-- "Sending under an ID that isn't kind 2 is 62, checked first, 60 next, then 01's writing numbers"
abbrev pub table_checks : List ℕ → Sections → ℕ → List ℕ → List ℕ → ℕ → List Check
table_checks t s id l payload room =
    62 when ((i : ℕ) → ¬ (HasKind t s id 2 i))
    ∷ 60 when ((k : ℕ) → k < 64 → ¬ (number_at l k ≡ 0))
    ∷ 5 when (2 ^ 32 ≤ length payload)
    ∷ 10 when (room < 20 + length payload)
    ∷ []

-- Ruled out: 60 before 62; an ID that is looked for among the first entries alone; a number written before it was made free of the list;
-- domain 0.
pub record SentOnTable (t : List ℕ) (s : Sections) (words : List ℕ) : Type 1 where
  pub order : (next id : ℕ) (l payload : List ℕ) (room : ℕ)
      → Answers (not_sent next) (sent_as next l payload) (table_checks t s id l payload room) (sent_of next l (kind_in t s words id) id payload room)
  -- every other platform reads what an accepted call left as an operation with that ID, from us, with its number, and the payload
  pub arrives : (own next id reader n written : ℕ) (l payload out : List ℕ) → own < 256 → id < 2 ^ 32 → next < 2 ^ 32 → ¬ (own ≡ reader)
      → (sent_of next l (kind_in t s words id) id payload (length out)).answer ≡ Under n written
      → Arrives own id n reader payload (take written (output_sent own next l (kind_in t s words id) id payload out))

-- platform a can ask platform b: in its table the ID is of kind 2, a place of its list is free, whatever else stands there, and the
-- message has room
pub record CanAsk (a b next id : ℕ) (t : List ℕ) (s : Sections) (words l payload out : List ℕ) : Type 0 where
  pub one : a < 256
  pub other : b < 256
  pub two : ¬ (a ≡ b)
  pub next_fits : next < 2 ^ 32
  pub id_fits : id < 2 ^ 32
  pub table : checked t ≡ Ok s
  pub index : s.operations.count ≤ length words
  pub entry : ℕ
  pub sent : HasKind t s id 2 entry
  pub whole : length l ≡ 128
  pub place : ℕ
  pub places : place < 64
  pub free : number_at l place ≡ 0
  pub size : length payload < 2 ^ 32
  pub room : 20 + length payload ≤ length out

-- a message is heard as the operation of entry i: states, output and list stay, and this is its payload
pub record HeardAt (own : ℕ) (t : List ℕ) (p : Standing) (l bytes out : List ℕ) (h : Header) (i : ℕ) (payload : List ℕ) : Type 0 where
  pub answer : received_of own t p l bytes (length out) ≡ record { standing = p; answer = Noted h (Operation i 20 (length payload)) 0 }
  pub handed : part bytes 20 (length payload) ≡ payload
  pub output : left_of own t p bytes out ≡ out
  pub list : list_after own t l bytes ≡ l

-- a message is delivered as the response: then nothing is pending under its number, and the same message again is 61
pub record DeliveredAt (own : ℕ) (t : List ℕ) (p : Standing) (l bytes out : List ℕ) (h : Header) (i : ℕ) (payload : List ℕ) : Type 0 where
  pub answer : received_of own t p l bytes (length out) ≡ record { standing = p; answer = Response h i 20 (length payload) }
  pub handed : part bytes 20 (length payload) ≡ payload
  pub output : left_of own t p bytes out ≡ out
  pub gone : awaited_of (list_after own t l bytes) h.sequence ≡ None
  pub once : (q : Standing) (room : ℕ) → received_of own t q (list_after own t l bytes) bytes room ≡ record { standing = q; answer = Refused 61 }

module _ (a b next id : ℕ) (t : List ℕ) (s : Sections) (words l payload out : List ℕ) where
  -- the bytes that platform a sends, and the requests that it then waits for
  abbrev pub asked : List ℕ
  asked = take (20 + length payload) (output_sent a next l (kind_in t s words id) id payload out)

  abbrev pub waiting : List ℕ
  waiting = list_sent next l (kind_in t s words id) id b payload (length out)

  -- what platform b writes in answer: the same ID and number, any payload
  abbrev pub reply : List ℕ → List ℕ → List ℕ
  reply response outB = take (20 + length response) (output_after b 1 id (next_free l next) response outB)

  -- Ruled out: a `receive` that refuses everything; a number, an ID or a payload that changes on the way; a response that is taken for an
  -- operation, or is delivered twice.
  pub record AskedAndAnswered : Type 0 where
    pub sends : (sent_of next l (kind_in t s words id) id payload (length out)).answer ≡ Under (next_free l next) (20 + length payload)
    -- "A message with a kind 3 ID goes to its component as in 01"
    pub hears : (u : List ℕ) (r : Sections) (j : ℕ) (q : Standing) (list outB : List ℕ) → checked u ≡ Ok r → HasKind u r id 3 j
        → HeardAt b u q list asked outB (header_for a 1 id (next_free l next) payload) j payload
    -- "A domain 1 message with that ID, number and sender is the response: it is delivered once and its place is free again"; platform a
    -- may have another table by then
    pub answers : (u : List ℕ) (r : Sections) (j : ℕ) (p : Standing) (response outB outA : List ℕ) → checked u ≡ Ok r → HasKind u r id 2 j
        → length response < 2 ^ 32 → 20 + length response ≤ length outB
        → DeliveredAt a u p waiting (reply response outB) outA (header_for b 1 id (next_free l next) response) j response

pub record AsksAndAnswers : Type 1 where
  pub on_table : (t : List ℕ) (s : Sections) (words : List ℕ) → checked t ≡ Ok s → s.operations.count ≤ length words → SentOnTable t s words
  pub asked_and_answered : (a b next id : ℕ) (t : List ℕ) (s : Sections) (words l payload out : List ℕ)
      → CanAsk a b next id t s words l payload out → AskedAndAnswered a b next id t s words l payload out
