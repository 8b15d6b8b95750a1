-- `plan::leaves::row_leaves` meets its contract: the total is the sum over the first k members, each of which has some.
-- Assumes nothing.
use Prim.Native.Nat.{◌*◌, ◌≤◌}
use mathlib.Core.Path.{◌≡◌}
use mathlib.Core.Bool.{true}
use Rattle.wire.specs.All.{all_below}
use Rattle.plan.specs.Leaves.{sum_below}
use Rattle.plan.specs.Members.{member_leaves, has_leaves}
use Rattle.plan.proofs.leaves.row_leaves.Given as goal

abbrev pub invariant-loop-k : goal.invariant-loop-k
invariant-loop-k l =
    (l.total ≡ sum_below (member_leaves l.table l.s l.known l.first) l.k)
    × (all_below (has_leaves (member_leaves l.table l.s l.known l.first)) l.k ≡ true) × (l.total ≤ l.k * 65535)
