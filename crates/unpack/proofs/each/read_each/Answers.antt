-- `unpack::each::read_each` meets its contract: the plan's runs are read so many times.
-- Assumes nothing.
use mathlib.Core.Path.{sym}
use mathlib.Core.List.{[]}
use Rattle.unpack.specs.Reading.{reader}
use Rattle.unpack.proofs.PlannedRuns.{plan-ends, end_fits, first_fits, tree_is}
use Rattle.unpack.proofs.EachByPlan.{going_as}
use Rattle.unpack.proofs.each.read_each.Goals as goal

pub overflow_add-end : goal.overflow_add-end
overflow_add-end c =
    search end_fits

pub offset_bounds-plans-first : goal.offset_bounds-plans-first
offset_bounds-plans-first c =
    search first_fits

pub slice_bounds-read_by_runs-end : goal.slice_bounds-read_by_runs-end
slice_bounds-read_by_runs-end c =
    search plan-ends

pub returns : goal.returns
returns c =
    going_as _ _ _ (sym (tree_is _ _ _ c.plan_of-plan.ensures (reader []) _)) c.read_by_runs.ensures
