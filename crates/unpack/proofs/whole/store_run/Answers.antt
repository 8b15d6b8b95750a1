-- `unpack::whole::store_run` meets its contract: one leaf, or several.
-- Assumes nothing.
use Rattle.unpack.proofs.WholeStores.{leaf_left}
use Rattle.unpack.proofs.whole.store_run.Goals as goal

pub returns-then-count-eq1 : goal.returns-then-count-eq1
returns-then-count-eq1 c =
    search leaf_left
