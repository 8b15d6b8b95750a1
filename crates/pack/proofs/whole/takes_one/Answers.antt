-- `pack::whole::takes_one` meets its contract.
-- Assumes nothing.
use Rattle.pack.proofs.WholeStores.{one-chosen, one-refused}
use Rattle.pack.proofs.whole.takes_one.Goals as goal

pub returns-then-allowed : goal.returns-then-allowed
returns-then-allowed c =
    search one-chosen

pub returns-else-allowed : goal.returns-else-allowed
returns-else-allowed c =
    search one-refused
