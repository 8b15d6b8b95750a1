-- What the call for one message answers by the sections that a check gave, as words.
use Rattle.std.specs.Prelude.{ℕ, List, length}
use Rattle.table.specs.Words.{sections_in, index_in}
use Rattle.platform.specs.declared.Received.{Received}
use Rattle.platform.specs.Receiving.{sections_outcome, sections_output, sections_list}
use Rattle.platform.specs.Noting.{number_given}
use Rattle.platform_words.specs.Words.{standing_in, pending_in}
use Rattle.platform_words.specs.HeardWords.{heard_after, platform_after}

-- own number, the platform's words, the table, the sections' words, the message and the output, in this order
abbrev pub outcome_with : ℕ → List ℕ → List ℕ → List ℕ → List ℕ → List ℕ → Received
outcome_with own ws t ss m out = sections_outcome own t (sections_in ss) (index_in ss) (standing_in ws) (pending_in ws) m (length out)

abbrev pub receive_in_number : ℕ → List ℕ → List ℕ → List ℕ → List ℕ → List ℕ → ℕ
receive_in_number own ws t ss m out = number_given (outcome_with own ws t ss m out).answer

abbrev pub receive_in_words : ℕ → List ℕ → List ℕ → List ℕ → List ℕ → List ℕ → List ℕ
receive_in_words own ws t ss m out = platform_after (outcome_with own ws t ss m out) ws (sections_list own t (sections_in ss) (index_in ss) (pending_in ws) m)

abbrev pub receive_in_output : ℕ → List ℕ → List ℕ → List ℕ → List ℕ → List ℕ → List ℕ
receive_in_output own ws t ss m out = sections_output own t (sections_in ss) (index_in ss) (standing_in ws) m out

abbrev pub receive_in_heard : ℕ → List ℕ → List ℕ → List ℕ → List ℕ → List ℕ → List ℕ → List ℕ
receive_in_heard own ws t ss m out heard = heard_after (outcome_with own ws t ss m out) heard
