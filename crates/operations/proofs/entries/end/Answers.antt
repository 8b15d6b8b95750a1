use Rattle.operations.proofs.Places.{first-place, next_place, step_fits}
use Rattle.operations.proofs.entries.end.Goals as goal

pub loop-i-init : goal.loop-i-init
loop-i-init c =
    search first-place

pub overflow_add-place : goal.overflow_add-place
overflow_add-place c =
    search step_fits

pub loop-i-preserved : goal.loop-i-preserved
loop-i-preserved c =
    search next_place
