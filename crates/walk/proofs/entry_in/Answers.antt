-- `walk::entry_in` meets its contract.
-- Assumes nothing.
use Rattle.walk.proofs.Trees.{an_entry}
use Rattle.walk.proofs.entry_in.Goals as goal

pub returns : goal.returns
returns c =
    search an_entry
