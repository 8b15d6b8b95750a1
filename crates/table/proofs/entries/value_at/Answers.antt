-- `table::entries::value_at` meets its contract: the number at its place.
-- Assumes nothing.
use Rattle.table.proofs.Lookups.{value_read}
use Rattle.table.proofs.entries.value_at.Goals as goal

pub returns : goal.returns
returns c =
    search value_read
