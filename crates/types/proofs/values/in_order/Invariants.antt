-- `types::values::in_order` meets its contract: the first k values rise, and the last of them is carried along.
-- Assumes nothing.
use Rattle.std.proofs.Common.{◌≡◌, true}
use Rattle.wire.specs.All.{all_below}
use Rattle.types.specs.Passes.{rank, next}
use Rattle.wire.proofs.Rising.{Carried}
use Rattle.types.proofs.values.in_order.Given as goal

abbrev pub invariant-loop-k : goal.invariant-loop-k
invariant-loop-k l = (all_below (next l.table l.s l.e) l.k ≡ true) × Carried (rank l.table l.s l.e) l.k l.last
