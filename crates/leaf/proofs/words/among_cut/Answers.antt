use Rattle.wire.proofs.AllBelow.{none_below, next-below, stop-below, done_below}
use Rattle.leaf.proofs.Returns.{hit, missed}
use Rattle.leaf.proofs.words.among_cut.Goals as goal

pub loop-k-init : goal.loop-k-init
loop-k-init c =
    search none_below

pub loop-k-preserved : goal.loop-k-preserved
loop-k-preserved c =
    search next-below

pub returns-then-not-other_cut : goal.returns-then-not-other_cut
returns-then-not-other_cut c =
    search (hit, stop-below)

pub returns : goal.returns
returns c =
    search (missed, done_below)
