-- `plan::leaves::sum` meets its contract: the total is the sum over the first k.
-- Assumes nothing.
use Prim.Native.Nat.{◌*◌, ◌≤◌}
use mathlib.Core.Path.{◌≡◌}
use lib.ListN.{get_or}
use Rattle.plan.specs.Leaves.{sum_below}
use Rattle.plan.proofs.leaves.sum.Given as goal

abbrev pub invariant-loop-count : goal.invariant-loop-count
invariant-loop-count l = (l.total ≡ sum_below (λ i. get_or l.counts i 0) l.count-index) × (l.total ≤ l.count-index * 65535)
