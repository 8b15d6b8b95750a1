-- `leaf::among_cut` meets its contract: the word is none of the first k values.
-- Assumes nothing.
use Rattle.std.proofs.Common.{◌≡◌, true}
use Rattle.wire.specs.All.{all_below}
use Rattle.leaf.specs.Choice.{other_at}
use Rattle.leaf.proofs.words.among_cut.Given as goal

abbrev pub invariant-loop-k : goal.invariant-loop-k
invariant-loop-k l = all_below (other_at l.table l.at l.word) l.k ≡ true
