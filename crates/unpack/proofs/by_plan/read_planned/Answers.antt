-- `unpack::by_plan::read_planned` meets its contract: the plan's runs are read.
-- Assumes nothing.
use Rattle.unpack.proofs.PlannedRuns.{plan-ends, end_fits, first_fits, plan-answer, plan-left}
use Rattle.unpack.proofs.by_plan.read_planned.Goals as goal

pub overflow_add-end : goal.overflow_add-end
overflow_add-end c =
    search end_fits

pub offset_bounds-plans-first : goal.offset_bounds-plans-first
offset_bounds-plans-first c =
    search first_fits

pub slice_bounds-read_runs-end : goal.slice_bounds-read_runs-end
slice_bounds-read_runs-end c =
    search plan-ends

pub returns-clause-value : goal.returns-clause-value
returns-clause-value c =
    search plan-answer

pub returns-clause-words_after : goal.returns-clause-words_after
returns-clause-words_after c =
    search plan-left
