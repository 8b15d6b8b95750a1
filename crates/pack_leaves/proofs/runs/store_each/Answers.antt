use Rattle.pack_leaves.proofs.StoredRuns.{none_stored, one-stored}
use Rattle.pack_leaves.proofs.runs.store_each.Goals as goal

pub loop-k-init : goal.loop-k-init
loop-k-init c =
    none_stored _ _ _ _

pub loop-k-preserved : goal.loop-k-preserved
loop-k-preserved c =
    one-stored _ _ _ _ _ _ c.width-width.ensures c.loop-k.invariant c.set.ensures
