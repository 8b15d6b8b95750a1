-- `walk::runs::are_there` meets its contract.
-- Assumes nothing.
use Rattle.walk.proofs.Parts.{both_there}
use Rattle.walk.proofs.runs.are_there.Goals as goal

pub returns : goal.returns
returns c =
    search both_there
