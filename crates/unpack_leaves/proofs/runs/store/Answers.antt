use Rattle.unpack_leaves.proofs.OneCode.{filled_none, filled_more}
use Rattle.unpack_leaves.proofs.runs.store.Goals as goal

pub loop-done-init : goal.loop-done-init
loop-done-init c =
    search filled_none

pub loop-done-preserved : goal.loop-done-preserved
loop-done-preserved c =
    search filled_more
