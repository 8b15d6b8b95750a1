-- 02, request 8: a request is written in its target's issue, and is else sent as one of Issue 6 (`platform_words/specs/SendCalls`).
use Rattle.std.specs.Prelude.{ℕ, cond, List}
use Rattle.message3.specs.declared.Stamp.{Stamp}
use Rattle.requests.specs.declared.Issue.{Issue}
use Rattle.requests.specs.declared.Issue.TheVariants.{Six, Three}
use Rattle.partners.specs.Threes.{is_three}
use Rattle.platform_words.specs.SendCalls.{send_number_for, send_words_for, send_output_for, send_sent_for}
use Rattle.mixed_words.specs.HeardWords.{stamp_in}

-- "Issue 6 if unsaid": the issue of platform k, and the timestamp of what is written for Issue 3
abbrev pub issue_for : List ℕ → Stamp → ℕ → Issue
issue_for i t k = cond (is_three i k) (Three t) Six

-- the three numbers, who speaks Issue 3, the platform's words, the table, the sections' words, the ID, the target, the payload and the
-- output, in this order; the own number stands before all, where it counts
abbrev pub mixed_send_number : List ℕ → List ℕ → List ℕ → List ℕ → List ℕ → ℕ → ℕ → List ℕ → List ℕ → ℕ
mixed_send_number st i ws t ss id target payload out = send_number_for (issue_for i (stamp_in st) target) ws t ss id payload out

abbrev pub mixed_send_words : List ℕ → List ℕ → List ℕ → List ℕ → List ℕ → ℕ → ℕ → List ℕ → List ℕ → List ℕ
mixed_send_words st i ws t ss id target payload out = send_words_for (issue_for i (stamp_in st) target) ws t ss id target payload out

abbrev pub mixed_send_output : ℕ → List ℕ → List ℕ → List ℕ → List ℕ → List ℕ → ℕ → ℕ → List ℕ → List ℕ → List ℕ
mixed_send_output own st i ws t ss id target payload out = send_output_for (issue_for i (stamp_in st) target) own ws t ss id payload out

abbrev pub mixed_send_sent : List ℕ → List ℕ → List ℕ → List ℕ → List ℕ → ℕ → ℕ → List ℕ → List ℕ → List ℕ → List ℕ
mixed_send_sent st i ws t ss id target payload out was = send_sent_for (issue_for i (stamp_in st) target) ws t ss id payload out was
