-- 02, request 1: what sending a request answers, and what it leaves in the list and in the output. 02, request 8: a request is written in its
-- target's issue, and all else of it is the same in both.
use Rattle.std.specs.Prelude.{ℕ, zero, suc, ◌+◌, not, cond, List, eqb, length}
use Rattle.std.specs.Prelude.{Option, Some, None}
use Rattle.wire.specs.Bytes.{over}
use Rattle.message.specs.Header.{header_length}
use Rattle.message.specs.Refusal.{write_refusal}
use Rattle.message.specs.declared.Writing.{Writing}
use Rattle.message.specs.Writing.{message_bytes, answered}
use Rattle.message.specs.Writing as writing
use Rattle.message3.specs.Header.{header_length3}
use Rattle.message3.specs.Refusal.{write_refusal3}
use Rattle.message3.specs.Writing.{message_bytes3}
use Rattle.operations.specs.Entries.{sent_kind}
use Rattle.pending.specs.Places.{free_place, entered, entered_at}
use Rattle.pending.specs.Free.{drawn, next_free}
use Rattle.requests.specs.declared.Issue.{Issue}
use Rattle.requests.specs.declared.Issue.TheVariants.{Six, Three}
use Rattle.requests.specs.declared.Sending.{Sending}
use Rattle.requests.specs.declared.Sent.{Sent}
use Rattle.requests.specs.declared.Sent.TheVariants.{Refused, Under}

-- 000 and 001, Table 2: the domain of an operation's message
abbrev pub operation_domain : ℕ
operation_domain = 1

-- by the issue: the number with which writing refuses, how many bytes the message has, and which
abbrev pub write_refusal_for : Issue → ℕ → List ℕ → ℕ → ℕ
write_refusal_for Six id payload room = write_refusal operation_domain id payload room
write_refusal_for (Three t) id payload room = write_refusal3 operation_domain id payload room

abbrev pub length_for : Issue → List ℕ → ℕ
length_for Six payload = header_length + length payload
length_for (Three t) payload = header_length3 + length payload

abbrev pub bytes_for : Issue → ℕ → ℕ → ℕ → List ℕ → List ℕ
bytes_for Six own id n payload = message_bytes own operation_domain id n payload
bytes_for (Three t) own id n payload = message_bytes3 own t operation_domain id n payload

abbrev pub list_full : ℕ
list_full = 60

abbrev pub no_request : ℕ
no_request = 62

abbrev pub unless_full : Option ℕ → ℕ → ℕ
unless_full (Some k) n = n
unless_full None n = list_full

-- "Sending under an ID that isn't kind 2 is 62, checked first, 60 next, then 01's writing numbers": the number that refuses, or 0
abbrev pub send_refusal_for : Issue → List ℕ → ℕ → ℕ → List ℕ → ℕ → ℕ
send_refusal_for issue l kind id payload room =
    cond (not (eqb kind sent_kind)) no_request
    (unless_full (free_place l) (write_refusal_for issue id payload room))

abbrev pub refused_with : ℕ → ℕ → Sending
refused_with next n = record { next = next; answer = Refused n }

-- a request that is sent bears the next number that is free, and the next own number is the one behind it (docs/DECISIONS.md, 58)
abbrev pub answered_by : ℕ → ℕ → ℕ → ℕ → Sending
answered_by zero next n written = record { next = drawn n; answer = Under n written }
answered_by (suc r) next n written = refused_with next (suc r)

abbrev pub sent_for : Issue → ℕ → List ℕ → ℕ → ℕ → List ℕ → ℕ → Sending
sent_for issue next l kind id payload room =
    answered_by (send_refusal_for issue l kind id payload room) next (next_free l next) (length_for issue payload)

-- by cases: the number that an answer gives back (0: the request was sent), and what a refusal leaves as it was
abbrev pub number_given : Sent → ℕ
number_given (Refused n) = n
number_given (Under n written) = 0

abbrev pub left_over_by : {A : Type 0} → Sent → A → A → A
left_over_by (Refused n) was new = was
left_over_by (Under n written) was new = new

-- the list and the output afterwards
abbrev pub list_sent_for : Issue → ℕ → List ℕ → ℕ → ℕ → ℕ → List ℕ → ℕ → List ℕ
list_sent_for issue next l kind id target payload room =
    left_over_by (sent_for issue next l kind id payload room).answer l (entered_at l (free_place l) (next_free l next) id target)

abbrev pub output_sent_for : Issue → ℕ → ℕ → List ℕ → ℕ → ℕ → List ℕ → List ℕ → List ℕ
output_sent_for issue own next l kind id payload out =
    left_over_by (sent_for issue next l kind id payload (length out)).answer out (over out 0 (bytes_for issue own id (next_free l next) payload))

-- the same for a target that speaks Issue 6
abbrev pub send_refusal : List ℕ → ℕ → ℕ → List ℕ → ℕ → ℕ
send_refusal = send_refusal_for Six

abbrev pub sent_of : ℕ → List ℕ → ℕ → ℕ → List ℕ → ℕ → Sending
sent_of = sent_for Six

abbrev pub list_sent : ℕ → List ℕ → ℕ → ℕ → ℕ → List ℕ → ℕ → List ℕ
list_sent = list_sent_for Six

abbrev pub output_sent : ℕ → ℕ → List ℕ → ℕ → ℕ → List ℕ → List ℕ → List ℕ
output_sent = output_sent_for Six

-- the message alone: what writing it answers, and what it leaves
abbrev pub write_for : Issue → ℕ → List ℕ → ℕ → Writing
write_for issue id payload room = answered (write_refusal_for issue id payload room) (length_for issue payload)

abbrev pub output_for : Issue → ℕ → ℕ → ℕ → List ℕ → List ℕ → List ℕ
output_for issue own id n payload out = writing.left_over_by (write_for issue id payload (length out)) out (over out 0 (bytes_for issue own id n payload))

-- the same where the kind is right and place k is free; no contract of a public function says these
abbrev pub written_of : Issue → ℕ → List ℕ → ℕ → List ℕ → ℕ → Sending
written_of issue next l id payload room =
    answered_by (write_refusal_for issue id payload room) next (next_free l next) (length_for issue payload)

abbrev pub list_written : Issue → ℕ → List ℕ → ℕ → ℕ → ℕ → List ℕ → ℕ → List ℕ
list_written issue next l k id target payload room =
    left_over_by (written_of issue next l id payload room).answer l (entered l k (next_free l next) id target)

abbrev pub output_written : Issue → ℕ → ℕ → List ℕ → ℕ → List ℕ → List ℕ → List ℕ
output_written issue own next l id payload out = output_for issue own id (next_free l next) payload out
