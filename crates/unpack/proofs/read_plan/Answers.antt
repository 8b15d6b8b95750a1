-- `unpack::read_plan` meets its contract: the plan's runs are unpacked.
-- Assumes nothing.
use Rattle.unpack.proofs.PlannedRuns.{plan-ends, end_fits, first_fits, plan-answer, plan-whole}
use Rattle.unpack.proofs.read_plan.Goals as goal

pub overflow_add-end : goal.overflow_add-end
overflow_add-end c =
    search end_fits

pub offset_bounds-plans-first : goal.offset_bounds-plans-first
offset_bounds-plans-first c =
    search first_fits

pub slice_bounds-read_whole-end : goal.slice_bounds-read_whole-end
slice_bounds-read_whole-end c =
    search plan-ends

pub returns-clause-value : goal.returns-clause-value
returns-clause-value c =
    search plan-answer

pub returns-clause-words_after : goal.returns-clause-words_after
returns-clause-words_after c =
    search plan-whole
