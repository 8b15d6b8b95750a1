-- `unpack_leaves::runs::judge_run` meets its contract: each arm judges leaves of its own code.
-- Assumes nothing.
use Rattle.unpack_leaves.proofs.WholeRuns.{arm-none}
use Rattle.unpack_leaves.proofs.runs.judge_run.Goals as goal

pub returns-in_default : goal.returns-in_default
returns-in_default c =
    search arm-none
