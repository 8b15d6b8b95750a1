-- `leaf::signed16` meets its contract.
-- Assumes nothing.
use Rattle.leaf.proofs.Signs.{carried_16}
use Rattle.leaf.proofs.words.signed16.Goals as goal

pub returns : goal.returns
returns c =
    search carried_16
