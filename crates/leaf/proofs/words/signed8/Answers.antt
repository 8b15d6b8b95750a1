-- `leaf::signed8` meets its contract.
-- Assumes nothing.
use Rattle.leaf.proofs.Signs.{carried_8}
use Rattle.leaf.proofs.words.signed8.Goals as goal

pub returns : goal.returns
returns c =
    search carried_8
