-- `unpack::by_plan::store_leaf` meets its contract: where there is no room for its word nothing changes.
-- Assumes nothing.
use Rattle.unpack_leaves.proofs.OneCode.{no-room-left}
use Rattle.unpack.proofs.StoredRuns.{leaf-stored}
use Rattle.unpack.proofs.by_plan.store_leaf.Goals as goal

pub returns-then-to-words : goal.returns-then-to-words
returns-then-to-words c =
    search leaf-stored

pub returns-else-to-words : goal.returns-else-to-words
returns-else-to-words c =
    search no-room-left
