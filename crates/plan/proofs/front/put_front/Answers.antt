use Rattle.plan.proofs.Fronts.{index-none, index-more}
use Rattle.plan.proofs.front.put_front.Goals as goal

pub loop-k-init : goal.loop-k-init
loop-k-init c =
    search index-none

pub loop-k-preserved : goal.loop-k-preserved
loop-k-preserved c =
    search index-more
