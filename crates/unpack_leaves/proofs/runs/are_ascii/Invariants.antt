-- `unpack_leaves::runs::are_ascii` meets its contract: what the bytes seen were put together to is ASCII where each of them is.
-- Assumes nothing.
use Prim.Native.Nat.{◌<◌}
use mathlib.Core.Path.{◌≡◌}
use lib.Dec.{leb}
use Rattle.wire.specs.All.{all_below}
use Rattle.unpack_leaves.specs.OneCode.{is_good}
use Rattle.unpack_leaves.proofs.runs.are_ascii.Given as goal

abbrev pub invariant-loop-seen : goal.invariant-loop-seen
invariant-loop-seen l = (leb l.all 127 ≡ all_below (is_good l.payload 2 l.from) l.seen) × (l.all < 256)
