use Rattle.plan.proofs.LeafLaws.{fill_none, fill_more}
use Rattle.plan.proofs.leaves.fill.Goals as goal

pub loop-i-init : goal.loop-i-init
loop-i-init c =
    search fill_none

pub loop-i-preserved : goal.loop-i-preserved
loop-i-preserved c =
    search fill_more
