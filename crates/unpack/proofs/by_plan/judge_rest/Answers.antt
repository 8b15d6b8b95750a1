use Rattle.unpack.proofs.LeafByLeaf.{runs-went, runs-stop, runs_done}
use Rattle.unpack.proofs.by_plan.judge_rest.Goals as goal

pub returns-in-Stopped : goal.returns-in-Stopped
returns-in-Stopped c =
    search runs-stop

pub loop-k-preserved : goal.loop-k-preserved
loop-k-preserved c =
    search runs-went

pub returns : goal.returns
returns c =
    search runs_done
