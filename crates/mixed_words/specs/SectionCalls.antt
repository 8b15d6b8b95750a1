-- 02, request 8: the same by the sections that a check gave, as words.
use Rattle.std.specs.Prelude.{ℕ, List, length}
use Rattle.table.specs.Words.{sections_in, index_in}
use Rattle.mixed.specs.declared.AnyReceived.{AnyReceived}
use Rattle.mixed.specs.Tables.{sections_answer, sections_out, sections_pending, sections_words}
use Rattle.mixed.specs.Receiving.{number_given}
use Rattle.platform_words.specs.Words.{standing_in, pending_in}
use Rattle.mixed_words.specs.HeardWords.{stamp_in, own_composite, any_platform_after, any_heard_after}

-- own number, who speaks Issue 3, our services, the platform's words, those of the partners' services, the table, the sections' words, the
-- message and the output, in this order; the three numbers of the stamp stand behind the own number
abbrev pub outcome_with : ℕ → List ℕ → List ℕ → List ℕ → List ℕ → List ℕ → List ℕ → List ℕ → List ℕ → AnyReceived
outcome_with own i ours ws sv t ss m out = sections_answer own i ours t (sections_in ss) (index_in ss) (standing_in ws) (pending_in ws) sv m (length out)

abbrev pub mixed_in_number : ℕ → List ℕ → List ℕ → List ℕ → List ℕ → List ℕ → List ℕ → List ℕ → List ℕ → ℕ
mixed_in_number own i ours ws sv t ss m out = number_given (outcome_with own i ours ws sv t ss m out).answer

abbrev pub mixed_in_words : ℕ → List ℕ → List ℕ → List ℕ → List ℕ → List ℕ → List ℕ → List ℕ → List ℕ → List ℕ
mixed_in_words own i ours ws sv t ss m out =
    any_platform_after (outcome_with own i ours ws sv t ss m out) ws (sections_pending own i t (sections_in ss) (index_in ss) (pending_in ws) m)

abbrev pub mixed_in_services : ℕ → List ℕ → List ℕ → List ℕ → List ℕ → List ℕ → List ℕ → List ℕ → List ℕ → List ℕ
mixed_in_services own i ours ws sv t ss m out = sections_words own i ours t (sections_in ss) (index_in ss) (standing_in ws) sv m (length out)

abbrev pub mixed_in_output : ℕ → List ℕ → List ℕ → List ℕ → List ℕ → List ℕ → List ℕ → List ℕ → List ℕ → List ℕ → List ℕ
mixed_in_output own st i ours ws sv t ss m out =
    sections_out own (stamp_in st) (own_composite st) i ours t (sections_in ss) (index_in ss) (standing_in ws) sv m out

abbrev pub mixed_in_heard : ℕ → List ℕ → List ℕ → List ℕ → List ℕ → List ℕ → List ℕ → List ℕ → List ℕ → List ℕ → List ℕ
mixed_in_heard own i ours ws sv t ss m out heard = any_heard_after (outcome_with own i ours ws sv t ss m out) heard
