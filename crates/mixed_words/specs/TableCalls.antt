-- 02, request 8: what the call for one message answers in lent words among partners of both issues: its number, the platform's words, the
-- words of the partners' services, the output and what was heard.
use Rattle.std.specs.Prelude.{ℕ, List, length}
use Rattle.types.specs.Table.{checked}
use Rattle.mixed.specs.declared.AnyReceived.{AnyReceived}
use Rattle.mixed.specs.Tables.{answer_if, out_if, pending_if, words_if}
use Rattle.mixed.specs.Receiving.{number_given}
use Rattle.platform_words.specs.Words.{standing_in, pending_in}
use Rattle.mixed_words.specs.HeardWords.{stamp_in, own_composite, any_platform_after, any_heard_after}

-- own number, who speaks Issue 3, our services, the platform's words, those of the partners' services, the table, the message and the
-- output, in this order; the three numbers of the stamp stand behind the own number
abbrev pub outcome_with : ℕ → List ℕ → List ℕ → List ℕ → List ℕ → List ℕ → List ℕ → List ℕ → AnyReceived
outcome_with own i ours ws sv t m out = answer_if (checked t) own i ours t (standing_in ws) (pending_in ws) sv m (length out)

abbrev pub mixed_number : ℕ → List ℕ → List ℕ → List ℕ → List ℕ → List ℕ → List ℕ → List ℕ → ℕ
mixed_number own i ours ws sv t m out = number_given (outcome_with own i ours ws sv t m out).answer

abbrev pub mixed_words : ℕ → List ℕ → List ℕ → List ℕ → List ℕ → List ℕ → List ℕ → List ℕ → List ℕ
mixed_words own i ours ws sv t m out = any_platform_after (outcome_with own i ours ws sv t m out) ws (pending_if (checked t) own i t (pending_in ws) m)

abbrev pub mixed_services : ℕ → List ℕ → List ℕ → List ℕ → List ℕ → List ℕ → List ℕ → List ℕ → List ℕ
mixed_services own i ours ws sv t m out = words_if (checked t) own i ours t (standing_in ws) sv m (length out)

abbrev pub mixed_output : ℕ → List ℕ → List ℕ → List ℕ → List ℕ → List ℕ → List ℕ → List ℕ → List ℕ → List ℕ
mixed_output own st i ours ws sv t m out = out_if (checked t) own (stamp_in st) (own_composite st) i ours t (standing_in ws) sv m out

abbrev pub mixed_heard : ℕ → List ℕ → List ℕ → List ℕ → List ℕ → List ℕ → List ℕ → List ℕ → List ℕ → List ℕ
mixed_heard own i ours ws sv t m out heard = any_heard_after (outcome_with own i ours ws sv t m out) heard
