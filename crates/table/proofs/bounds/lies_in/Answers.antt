-- `table::lies_in` meets its contract: its two tests.
-- Assumes nothing.
use Rattle.table.proofs.Places.{lies}
use Rattle.table.proofs.bounds.lies_in.Goals as goal

pub returns : goal.returns
returns c =
    search lies
