-- `operations::entries::width_of` meets its contract: 10 bytes, or 8.
-- Assumes nothing.
use Rattle.operations.proofs.Places.{has-ten, has-eight}
use Rattle.operations.proofs.entries.width_of.Goals as goal

pub returns-then-is_wide : goal.returns-then-is_wide
returns-then-is_wide c =
    search has-ten

pub returns-else-is_wide : goal.returns-else-is_wide
returns-else-is_wide c =
    search has-eight
