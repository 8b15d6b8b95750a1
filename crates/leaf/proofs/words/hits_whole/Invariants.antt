-- `leaf::hits_whole` meets its contract: the word is none of the first k values where none of them was counted.
-- Assumes nothing.
use Rattle.std.proofs.Common.{◌≡◌, ◌≤◌, eqb}
use Rattle.wire.specs.All.{all_below}
use Rattle.wire.specs.LowFirst.{swapped}
use Rattle.leaf.specs.Choice.{other_at}
use Rattle.leaf.proofs.words.hits_whole.Given as goal

abbrev pub invariant-loop-k : goal.invariant-loop-k
invariant-loop-k l = (eqb l.hits 0 ≡ all_below (other_at l.table l.at (swapped 3 l.turned)) l.k) × (l.hits ≤ l.k)
