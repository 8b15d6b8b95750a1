use Rattle.std.proofs.Common.{rules}
use Rattle.leaf.proofs.Counted.{counted_none, counted-more}
use Rattle.leaf.proofs.words.hits_whole.Goals as goal

pub loop-k-init : goal.loop-k-init
loop-k-init c =
    (search counted_none, search rules)

pub loop-k-preserved : goal.loop-k-preserved
loop-k-preserved c =
    (search counted-more, search rules)
