use Rattle.operations.proofs.Places.{first-place, next-by-entry, step-by-kind}
use Rattle.operations.proofs.Passing.{none-judged, no-id-yet, all-judged, operation-next, id_next, bad-operation, falls}
use Rattle.operations.proofs.rules.are_good.Goals as goal

pub loop-i-init : goal.loop-i-init
loop-i-init c =
    (search none-judged, search no-id-yet, search first-place)

pub overflow_add-place : goal.overflow_add-place
overflow_add-place c =
    search step-by-kind

pub loop-i-preserved : goal.loop-i-preserved
loop-i-preserved c =
    (search operation-next, search id_next, search next-by-entry)

pub returns-then-not-fields_ok : goal.returns-then-not-fields_ok
returns-then-not-fields_ok c =
    search bad-operation

pub returns-then-not-i-last : goal.returns-then-not-i-last
returns-then-not-i-last c =
    search falls

pub returns : goal.returns
returns c =
    search all-judged
