use Rattle.unpack.proofs.LeafByLeaf.{leaves-went, leaves-stop, leaves-done}
use Rattle.unpack.proofs.by_plan.judge_leaves.Goals as goal

pub loop-preserved : goal.loop-preserved
loop-preserved c =
    search leaves-went

pub returns-in-Stopped : goal.returns-in-Stopped
returns-in-Stopped c =
    search leaves-stop

pub returns : goal.returns
returns c =
    search leaves-done
