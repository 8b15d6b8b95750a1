-- `walk::runs::turned` meets its contract.
-- Assumes nothing.
use Rattle.walk.proofs.Parts.{turned_here}
use Rattle.walk.proofs.runs.turned.Goals as goal

pub returns : goal.returns
returns c =
    search turned_here
