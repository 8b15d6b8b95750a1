-- `unpack_leaves::runs::judged` meets its contract: none of the leaves seen was refused where none was counted.
-- Assumes nothing.
use Prim.Native.Nat.{◌≤◌}
use mathlib.Core.Path.{◌≡◌}
use lib.Dec.{eqb}
use Rattle.wire.specs.All.{all_below}
use Rattle.unpack_leaves.specs.OneCode.{is_good}
use Rattle.unpack_leaves.proofs.runs.judged.Given as goal

abbrev pub invariant-loop-seen : goal.invariant-loop-seen
invariant-loop-seen l = (eqb l.bad 0 ≡ all_below (is_good l.payload l.code l.from) l.seen) × (l.bad ≤ l.seen)
