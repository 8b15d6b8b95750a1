-- `leaf::signed32` meets its contract.
-- Assumes nothing.
use Rattle.leaf.proofs.Signs.{carried_32}
use Rattle.leaf.proofs.words.signed32.Goals as goal

pub returns : goal.returns
returns c =
    search carried_32
