use Rattle.pack.proofs.LaidBases.{ends_none, ends-fit, ends_more, laid_none, laid_more}
use Rattle.pack.proofs.walking.store_bases.Goals as goal

pub loop-k-init : goal.loop-k-init
loop-k-init c =
    (ends_none _, laid_none _ _ _)

pub overflow_add-to : goal.overflow_add-to
overflow_add-to c =
    search ends-fit

pub loop-k-preserved : goal.loop-k-preserved
loop-k-preserved c =
    (search ends_more, search laid_more)
