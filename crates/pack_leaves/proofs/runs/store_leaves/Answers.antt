-- `pack_leaves::runs::store_leaves` meets its contract: one leaf, or several.
-- Assumes nothing.
use Rattle.pack_leaves.proofs.StoredRuns.{one_written, one_missing}
use Rattle.pack_leaves.proofs.runs.store_leaves.Goals as goal

pub returns-then-from-words : goal.returns-then-from-words
returns-then-from-words c =
    search one_written

pub returns-else-from-words : goal.returns-else-from-words
returns-else-from-words c =
    search one_missing
