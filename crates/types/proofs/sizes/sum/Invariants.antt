-- `types::sizes::sum` meets its contract: the total is the sum over the first k members.
-- Assumes nothing.
use Rattle.std.proofs.Common.{◌≡◌, ◌*◌, ◌≤◌}
use Rattle.types.specs.Sizes.{sum_from}
use Rattle.types.proofs.sizes.sum.Given as goal

abbrev pub invariant-loop-k : goal.invariant-loop-k
invariant-loop-k g l = (l.total ≡ sum_from l.table l.s l.known l.first l.k) × (l.total ≤ l.k * 4294967295)
