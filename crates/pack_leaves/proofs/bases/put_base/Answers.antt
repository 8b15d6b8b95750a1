-- `pack_leaves::bases::put_base` meets its contract: the room's end comes before the leaf, or within it, or behind it.
-- Assumes nothing.
use Rattle.pack_leaves.proofs.Laid.{put_behind, put_short}
use Rattle.pack_leaves.proofs.bases.put_base.Goals as goal

pub returns-then-width-out : goal.returns-then-width-out
returns-then-width-out c =
    c.set.ensures

pub returns-else-width-out : goal.returns-else-width-out
returns-else-width-out c =
    search put_short

pub returns-else-to-out : goal.returns-else-to-out
returns-else-to-out c =
    search put_behind
