-- `leaf::other_cut` meets its contract.
-- Assumes nothing.
use Rattle.leaf.proofs.Returns.{compared-cut}
use Rattle.leaf.proofs.words.other_cut.Goals as goal

pub returns : goal.returns
returns c =
    search compared-cut
