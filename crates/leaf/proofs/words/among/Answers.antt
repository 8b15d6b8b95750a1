-- `leaf::among` meets its contract.
-- Assumes nothing.
use Rattle.leaf.proofs.Returns.{by_place}
use Rattle.leaf.proofs.words.among.Goals as goal

pub returns : goal.returns
returns c =
    search by_place
