use Rattle.operations.proofs.Places.{first-place, next-by-kind, step-by-kind}
use Rattle.operations.proofs.Passing.{no-data-yet, never-data, some-data, not-data}
use Rattle.operations.proofs.rules.has_data.Goals as goal

pub loop-i-init : goal.loop-i-init
loop-i-init c =
    (search no-data-yet, search first-place)

pub returns-then-kind-eq-VERSIONED_DATA : goal.returns-then-kind-eq-VERSIONED_DATA
returns-then-kind-eq-VERSIONED_DATA c =
    search some-data

pub overflow_add-place : goal.overflow_add-place
overflow_add-place c =
    search step-by-kind

pub loop-i-preserved : goal.loop-i-preserved
loop-i-preserved c =
    (search not-data, search next-by-kind)

pub returns : goal.returns
returns c =
    search never-data
