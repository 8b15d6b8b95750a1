-- `pack::write_plan` meets its contract.
-- Assumes nothing.
use native.Mathlib.Omega.{arith}
use Rattle.walk.proofs.WherePlans.{plan_in}
use Rattle.pack.proofs.PlanReturns.{planned-gives}
use Rattle.pack.proofs.write_plan.Goals as goal

pub overflow_add-end : goal.overflow_add-end
overflow_add-end c =
    record { fits = omega (arith, plan_in _ _ _ c.plan_of-plan.ensures) }

pub offset_bounds-plans-first : goal.offset_bounds-plans-first
offset_bounds-plans-first c =
    record { fits = omega (arith, plan_in _ _ _ c.plan_of-plan.ensures) }

pub slice_bounds-write_whole-start : goal.slice_bounds-write_whole-start
slice_bounds-write_whole-start c =
    omega (arith, plan_in _ _ _ c.plan_of-plan.ensures)

pub slice_bounds-write_whole-end : goal.slice_bounds-write_whole-end
slice_bounds-write_whole-end c =
    omega (arith, plan_in _ _ _ c.plan_of-plan.ensures)

pub returns : goal.returns
returns c =
    let t = planned-gives _ _ _ _ c.plan_of-plan.ensures _ _ _ _ _ (c.write_whole.ensures.value, c.write_whole.ensures.out_after) in
    record { value = t.0; out_after = t.1 }
