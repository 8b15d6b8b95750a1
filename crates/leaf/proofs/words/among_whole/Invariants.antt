-- `leaf::among_whole` meets its contract: the word is none of the first k values.
-- Assumes nothing.
use Rattle.std.proofs.Common.{◌≡◌, ◌-◌, ◌≤◌, true}
use Rattle.wire.specs.All.{all_below}
use Rattle.wire.specs.LowFirst.{swapped}
use Rattle.leaf.specs.Choice.{other_at}
use Rattle.leaf.proofs.words.among_whole.Given as goal

abbrev pub invariant-loop-k : goal.invariant-loop-k
invariant-loop-k l = (all_below (other_at l.table l.at (swapped 3 l.turned)) l.k ≡ true) × (l.k ≤ l.count)

abbrev pub decreases-loop-k : goal.decreases-loop-k
decreases-loop-k l = l.count - l.k
