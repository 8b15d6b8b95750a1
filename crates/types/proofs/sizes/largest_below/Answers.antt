-- `types::sizes::largest_below` meets its contract: the size comes from those before it, or one of these is too large.
-- Assumes nothing.
use Rattle.types.proofs.SizeLaws.{below-known, below-unknown}
use Rattle.types.proofs.sizes.largest_below.Goals as goal

pub returns-then-fill : goal.returns-then-fill
returns-then-fill c =
    search below-known

pub returns-else-fill : goal.returns-else-fill
returns-else-fill c =
    search below-unknown
