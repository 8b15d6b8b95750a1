-- `unpack_leaves::bases::is_there` meets its contract: the two ends of a base's leaf.
-- Assumes nothing.
use Rattle.unpack_leaves.proofs.OneLeaf.{cut_off, judged}
use Rattle.unpack_leaves.proofs.bases.is_there.Goals as goal

pub returns-then-payload-from : goal.returns-then-payload-from
returns-then-payload-from c =
    search cut_off

pub returns : goal.returns
returns c =
    search judged
