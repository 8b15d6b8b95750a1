-- `plan::leaves::fill` meets its contract: the room holds the leaves of the first i types.
-- Assumes nothing.
use mathlib.Core.Path.{◌≡◌}
use lib.ListN.{take}
use Rattle.plan.specs.Leaves.{leaf_counts}
use Rattle.plan.proofs.leaves.fill.Given as goal

abbrev pub invariant-loop-i : goal.invariant-loop-i
invariant-loop-i l = take l.i l.room ≡ leaf_counts l.table l.s l.i
