-- `unpack::bases::leaf_in` meets its contract: by the leaf's width.
-- Assumes nothing.
use Rattle.unpack.proofs.ByWidth.{of-eight}
use Rattle.unpack.proofs.bases.leaf_in.Goals as goal

pub returns-in-8 : goal.returns-in-8
returns-in-8 c =
    search of-eight
