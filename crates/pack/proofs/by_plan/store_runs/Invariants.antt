-- `pack::by_plan::store_runs` meets its contract. The loop's invariant: what is left to store leads from here to the whole.
-- Assumes nothing.
use Prim.Native.Nat.{◌≤◌}
use Rattle.pack.specs.Writing.{Writing}
use Rattle.pack.specs.ByPlan.{stored_runs}
use Rattle.pack.proofs.PlanStores.{Stores}
use Rattle.pack.proofs.by_plan.store_runs.Given as goal

abbrev pub invariant-loop-run : goal.invariant-loop-run
invariant-loop-run l =
    Stores l.words l.runs l.upto (stored_runs l.words l.runs l.fn.p l.upto l.initial.out) l.run-index (record { from = l.from; to = l.to }) l.out
    × Writing l.words (record { from = l.from; to = l.to })
    × (l.from ≤ l.upto)
