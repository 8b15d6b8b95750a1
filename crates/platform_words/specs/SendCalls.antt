-- 02, requests 1 and 8: what sending a request in its target's issue answers in lent words, by the sections that a check gave.
use Rattle.std.specs.Prelude.{ℕ, cond, List, [], ◌∷◌, ◌++◌, length, take}
use Rattle.std.specs.Prelude.{Option, Some, None}
use Rattle.wire.specs.Bytes.{over}
use Rattle.table.specs.Layout.{cut_short, within}
use Rattle.table.specs.Words.{sections_in, index_in}
use Rattle.operations.specs.Entries.{event_kind, kind_at}
use Rattle.operations.specs.Search.{sought_in}
use Rattle.pending.specs.Places.{free_place, entered_at}
use Rattle.pending.specs.Free.{next_free}
use Rattle.requests.specs.declared.Issue.{Issue}
use Rattle.requests.specs.declared.Issue.TheVariants.{Six}
use Rattle.requests.specs.declared.Sending.{Sending}
use Rattle.requests.specs.declared.Sent.{Sent}
use Rattle.requests.specs.declared.Sent.TheVariants.{Refused, Under}
use Rattle.requests.specs.Sending.{bytes_for, refused_with, sent_for, number_given, left_over_by}
use Rattle.platform_words.specs.Words.{next_in, pending_in}

-- the kind of the operation that was found; an ID that is not in the table is no request's, and counts as an event's
unfoldable pub kind_found : List ℕ → Option (ℕ × ℕ) → ℕ
kind_found t (Some (i, p)) = kind_at t p
kind_found t None = event_kind

abbrev pub kind_of : List ℕ → List ℕ → ℕ → ℕ
kind_of t ss id = kind_found t (sought_in t (index_in ss) (sections_in ss).operations.count id)

-- 30 where the sections do not lie in the table, before all else. The issue, the platform's words, the table, the sections' words, the ID,
-- the payload and the output's length, in this order
unfoldable pub outcome_sent_for : Issue → List ℕ → List ℕ → List ℕ → ℕ → List ℕ → ℕ → Sending
outcome_sent_for issue ws t ss id payload room =
    cond (within t (sections_in ss)) (sent_for issue (next_in ws) (pending_in ws) (kind_of t ss id) id payload room) (refused_with (next_in ws) cut_short)

-- what is sent: the states' words, the next own number, and the list with the request in its first free place
abbrev pub entered_words : List ℕ → ℕ → ℕ → ℕ → List ℕ
entered_words ws next id target = take 4 ws ++ (next ∷ entered_at (pending_in ws) (free_place (pending_in ws)) (next_free (pending_in ws) (next_in ws)) id target)

abbrev pub request_bytes : Issue → ℕ → List ℕ → ℕ → List ℕ → List ℕ
request_bytes issue own ws id payload = bytes_for issue own id (next_free (pending_in ws) (next_in ws)) payload

-- how many bytes it has, and its number
abbrev pub sent_words : Sent → List ℕ → List ℕ
sent_words (Refused n) words = words
sent_words (Under n written) words = written ∷ n ∷ []

-- a refusal leaves all as it was
abbrev pub send_number_for : Issue → List ℕ → List ℕ → List ℕ → ℕ → List ℕ → List ℕ → ℕ
send_number_for issue ws t ss id payload out = number_given (outcome_sent_for issue ws t ss id payload (length out)).answer

abbrev pub words_sent : Sending → List ℕ → ℕ → ℕ → List ℕ
words_sent o ws id target = left_over_by o.answer ws (entered_words ws o.next id target)

abbrev pub send_words_for : Issue → List ℕ → List ℕ → List ℕ → ℕ → ℕ → List ℕ → List ℕ → List ℕ
send_words_for issue ws t ss id target payload out = words_sent (outcome_sent_for issue ws t ss id payload (length out)) ws id target

abbrev pub send_output_for : Issue → ℕ → List ℕ → List ℕ → List ℕ → ℕ → List ℕ → List ℕ → List ℕ
send_output_for issue own ws t ss id payload out =
    left_over_by (outcome_sent_for issue ws t ss id payload (length out)).answer out (over out 0 (request_bytes issue own ws id payload))

abbrev pub send_sent_for : Issue → List ℕ → List ℕ → List ℕ → ℕ → List ℕ → List ℕ → List ℕ → List ℕ
send_sent_for issue ws t ss id payload out was = sent_words (outcome_sent_for issue ws t ss id payload (length out)).answer was

-- the same for a target that speaks Issue 6
abbrev pub send_number : List ℕ → List ℕ → List ℕ → ℕ → List ℕ → List ℕ → ℕ
send_number = send_number_for Six

abbrev pub send_words : List ℕ → List ℕ → List ℕ → ℕ → ℕ → List ℕ → List ℕ → List ℕ
send_words = send_words_for Six

abbrev pub send_output : ℕ → List ℕ → List ℕ → List ℕ → ℕ → List ℕ → List ℕ → List ℕ
send_output = send_output_for Six

abbrev pub send_sent : List ℕ → List ℕ → List ℕ → ℕ → List ℕ → List ℕ → List ℕ → List ℕ
send_sent = send_sent_for Six
