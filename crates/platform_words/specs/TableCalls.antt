-- What the call for one message answers in lent words: its number, the platform's words, the output and what was heard.
use Rattle.std.specs.Prelude.{ℕ, List, length}
use Rattle.platform.specs.declared.Received.{Received}
use Rattle.platform.specs.Receiving.{received_of, left_of, list_after}
use Rattle.platform.specs.Noting.{number_given}
use Rattle.platform_words.specs.Words.{standing_in, pending_in}
use Rattle.platform_words.specs.HeardWords.{heard_after, platform_after}

-- own number, the platform's words, the table, the message and the output, in this order
abbrev pub outcome_with : ℕ → List ℕ → List ℕ → List ℕ → List ℕ → Received
outcome_with own ws t m out = received_of own t (standing_in ws) (pending_in ws) m (length out)

abbrev pub receive_number : ℕ → List ℕ → List ℕ → List ℕ → List ℕ → ℕ
receive_number own ws t m out = number_given (outcome_with own ws t m out).answer

abbrev pub receive_words : ℕ → List ℕ → List ℕ → List ℕ → List ℕ → List ℕ
receive_words own ws t m out = platform_after (outcome_with own ws t m out) ws (list_after own t (pending_in ws) m)

abbrev pub receive_output : ℕ → List ℕ → List ℕ → List ℕ → List ℕ → List ℕ
receive_output own ws t m out = left_of own t (standing_in ws) m out

abbrev pub receive_heard : ℕ → List ℕ → List ℕ → List ℕ → List ℕ → List ℕ → List ℕ
receive_heard own ws t m out heard = heard_after (outcome_with own ws t m out) heard
