-- `operations::entries::width_at` meets its contract: the width of the kind that stands there.
-- Assumes nothing.
use Rattle.operations.proofs.Places.{width_read}
use Rattle.operations.proofs.entries.width_at.Goals as goal

pub returns : goal.returns
returns c =
    search width_read
