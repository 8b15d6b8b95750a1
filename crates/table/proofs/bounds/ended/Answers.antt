-- `table::ended` meets its contract: the last section ends where the bytes end, or it is 30.
-- Assumes nothing.
use Rattle.table.proofs.Places.{at_end, not_at_end}
use Rattle.table.proofs.bounds.ended.Goals as goal

pub returns-then-end-table : goal.returns-then-end-table
returns-then-end-table c =
    search at_end

pub returns-else-end-table : goal.returns-else-end-table
returns-else-end-table c =
    search not_at_end
