-- `pack::each::write_each` meets its contract: the plan's runs are written so many times.
-- Assumes nothing.
use native.Mathlib.Omega.{arith}
use mathlib.Core.Path.{sym}
use Rattle.walk.proofs.WherePlans.{plan_in}
use Rattle.pack.proofs.PlanReturns.{part-tree}
use Rattle.pack.proofs.PlanEach.{going_as}
use Rattle.pack.proofs.each.write_each.Goals as goal

pub overflow_add-end : goal.overflow_add-end
overflow_add-end c =
    record { fits = omega (arith, plan_in _ _ _ c.plan_of-plan.ensures) }

pub offset_bounds-plans-first : goal.offset_bounds-plans-first
offset_bounds-plans-first c =
    record { fits = omega (arith, plan_in _ _ _ c.plan_of-plan.ensures) }

pub slice_bounds-write_times-start : goal.slice_bounds-write_times-start
slice_bounds-write_times-start c =
    omega (arith, plan_in _ _ _ c.plan_of-plan.ensures)

pub slice_bounds-write_times-end : goal.slice_bounds-write_times-end
slice_bounds-write_times-end c =
    omega (arith, plan_in _ _ _ c.plan_of-plan.ensures)

pub returns : goal.returns
returns c =
    going_as _ _ _ (sym (part-tree _ _ _ _ c.plan_of-plan.ensures)) c.write_times.ensures
