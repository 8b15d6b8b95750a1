-- 02, request 1, "Responses, please": what is promised of the list of pending requests and of sending. The theorem is in
-- proofs/Requests.antt. Places, limits and numbers stand here as 02 has them.
use Rattle.std.specs.Prelude.{ℕ, ◌+◌, ◌%◌, ◌^◌, ◌≤◌, ◌<◌, ◌≡◌, Bool, true, false, List, [], ◌∷◌, length, take, drop}
use Rattle.std.specs.Prelude.{Some, None}
use Rattle.message.specs.declared.Message.TheVariants as message
use Rattle.message.specs.declared.Reading.TheVariants as reading
use Rattle.message.specs.Reading.{read_of, payload_of}
use Rattle.message.specs.Writing.{header_for}
use Rattle.pending.specs.Places.{number_at}
use Rattle.pending.specs.Free.{is_pending, next_free, IsNextFree}
use Rattle.pending.specs.Answers.{awaited_of, cancelled, is_response, responded}
use Rattle.pending.specs.PlainMap.{empty_map, fresh_list, Once}
use Rattle.pending.specs.Turns.{Turn, Told, AllNarrow, list_tells_all, list_after_all, Kempt, MapRun}
use Rattle.requests.specs.declared.Sending.{Sending}
use Rattle.requests.specs.declared.Sent.TheVariants.{Refused, Under}
use Rattle.requests.specs.Sending.{sent_of, list_sent, output_sent, number_given}
use Rattle.promises.specs.Checks.{Check, ◌when◌, Answers, Keeps}

-- "Sending under an ID that isn't kind 2 is 62, checked first, 60 next, then 01's writing numbers." "A full list refuses with 60, and
-- only then."
abbrev pub send_checks : List ℕ → ℕ → List ℕ → ℕ → List Check
send_checks l kind payload room =
    62 when (¬ (kind ≡ 2))
    ∷ 60 when ((k : ℕ) → k < 64 → ¬ (number_at l k ≡ 0))
    ∷ 5 when (2 ^ 32 ≤ length payload)
    ∷ 10 when (room < 20 + length payload)
    ∷ []

abbrev pub not_sent : ℕ → ℕ → Sending
not_sent next n = record { next = next; answer = Refused n }

-- a request that is sent bears the next number that is free, and the next own number is the one behind it
abbrev pub sent_as : ℕ → List ℕ → List ℕ → Sending
sent_as next l payload = record { next = (next_free l next + 1) % 2 ^ 32; answer = Under (next_free l next) (20 + length payload) }

-- what every other platform reads of a request that was sent: an operation with that ID and number from us, and the payload
pub record Arrives (own id n reader : ℕ) (payload bytes : List ℕ) : Type 0 where
  pub heard : read_of reader bytes ≡ reading.Read (header_for own 1 id n payload) message.Operation 20 (length payload)
  pub handed : payload_of bytes (read_of reader bytes) ≡ payload

-- "it is delivered once and its place is free again": once a request is answered, nothing is pending under its number, all else is as
-- it was, and the same message is not the response again
pub record AnsweredOnce (l : List ℕ) (n id sender : ℕ) : Type 0 where
  pub gone : awaited_of (responded l n id sender) n ≡ None
  pub others : (x : ℕ) → ¬ (x ≡ n) → awaited_of (responded l n id sender) x ≡ awaited_of l x
  pub once : is_response (responded l n id sender) n id sender ≡ false

pub record Requests : Type 1 where
  pub order : (next kind id : ℕ) (l payload : List ℕ) (room : ℕ) →
      Answers (not_sent next) (sent_as next l payload) (send_checks l kind payload room) (sent_of next l kind id payload room)
  -- a refusal changes nothing
  pub next_kept : (next kind id : ℕ) (l payload : List ℕ) (room : ℕ) →
      Keeps (number_given (sent_of next l kind id payload room).answer) next (sent_of next l kind id payload room).next
  pub list_kept : (next kind id target : ℕ) (l payload : List ℕ) (room : ℕ) →
      Keeps (number_given (sent_of next l kind id payload room).answer) l (list_sent next l kind id target payload room)
  pub output_kept : (own next kind id : ℕ) (l payload out : List ℕ) →
      Keeps (number_given (sent_of next l kind id payload (length out)).answer) out (output_sent own next l kind id payload out)
  -- "A request never takes a number still pending: it takes the next one free, going round at 0xFFFFFFFF"
  pub next-free : (l : List ℕ) (next : ℕ) → next < 2 ^ 32 → IsNextFree (is_pending l) next (next_free l next)
  pub next_one : (taken : ℕ → Bool) (next x y : ℕ) → IsNextFree taken next x → IsNextFree taken next y → x ≡ y
  -- what is sent, and what stays of the output behind it
  pub arrives : (own next kind id reader : ℕ) (l payload out : List ℕ) → own < 256 → id < 2 ^ 32 → next < 2 ^ 32 → ¬ (own ≡ reader)
      → number_given (sent_of next l kind id payload (length out)).answer ≡ 0
      → Arrives own id (next_free l next) reader payload (take (20 + length payload) (output_sent own next l kind id payload out))
  pub behind : (own next kind id : ℕ) (l payload out : List ℕ) → number_given (sent_of next l kind id payload (length out)).answer ≡ 0
      → drop (20 + length payload) (output_sent own next l kind id payload out) ≡ drop (20 + length payload) out
  -- a message is the response just where its number is pending for its ID and its sender, and on any list without a number twice
  -- it is so once
  pub is-response : (l : List ℕ) (n id sender : ℕ) → awaited_of l n ≡ Some (id, sender) → is_response l n id sender ≡ true
  pub no_response : (l : List ℕ) (n id sender : ℕ) → ¬ (awaited_of l n ≡ Some (id, sender)) → is_response l n id sender ≡ false
  pub answered_once : (l : List ℕ) (n id sender : ℕ) → length l ≡ 128 → Once l → is_response l n id sender ≡ true → AnsweredOnce l n id sender
  pub stays : (l : List ℕ) (n id sender : ℕ) → is_response l n id sender ≡ false → responded l n id sender ≡ l
  -- "a number not pending changes nothing"
  pub not_cancelled : (l : List ℕ) (n : ℕ) → is_pending l n ≡ false → cancelled l n ≡ l
  -- "Over any calls the list answers as a plain map does"
  pub as_map : (ts : List Turn) (told : List Told) → AllNarrow ts → MapRun empty_map ts told → list_tells_all fresh_list ts ≡ told
  pub map_runs : (ts : List Turn) → AllNarrow ts → MapRun empty_map ts (list_tells_all fresh_list ts)
  -- from fresh no turns make a list with a number twice, or with a target that is no platform's number
  pub kempt : (ts : List Turn) → AllNarrow ts → Kempt (list_after_all fresh_list ts)
