use borrow.Author.Rules.{rules}
use Rattle.plan.proofs.LeafLaws.{sum-none, row_more, row-some, row-stop, row_done}
use Rattle.wire.proofs.AllBelow.{none_below}
use Rattle.plan.proofs.leaves.row_leaves.Goals as goal

pub loop-k-init : goal.loop-k-init
loop-k-init c =
    (search sum-none, search none_below, search rules)

pub returns-then-leaves-eq0 : goal.returns-then-leaves-eq0
returns-then-leaves-eq0 c =
    search row-stop

pub loop-k-preserved : goal.loop-k-preserved
loop-k-preserved c =
    (search row_more, search row-some, search rules)

pub returns : goal.returns
returns c =
    search row_done
