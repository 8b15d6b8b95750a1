-- `table::within` meets its contract: the four sections one by one.
-- Assumes nothing.
use Rattle.table.proofs.Places.{all_lie}
use Rattle.table.proofs.bounds.within.Goals as goal

pub returns : goal.returns
returns c =
    search all_lie
