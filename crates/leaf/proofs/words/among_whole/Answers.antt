use Rattle.std.proofs.Common.{true, rules}
use Rattle.wire.proofs.AllBelow.{none_below}
use Rattle.leaf.proofs.Stretches.{stretch-missed, stretch-hit, all-missed}
use Rattle.leaf.proofs.words.among_whole.Goals as goal

pub loop-k-init : goal.loop-k-init
loop-k-init c =
    (search none_below, search rules)

pub loop-k-preserved : goal.loop-k-preserved
loop-k-preserved c =
    let inv = c.loop-k.invariant in
    (stretch-missed _ _ _ _ _ _ inv.0 c.hits_whole.ensures c.if-hits_whole-eq0.true, search rules)

pub returns-else-hits_whole-eq0 : goal.returns-else-hits_whole-eq0
returns-else-hits_whole-eq0 c =
    search stretch-hit

pub returns : goal.returns
returns c =
    search all-missed
