-- `walk::packed` meets its contract.
-- Assumes nothing.
use Rattle.walk.proofs.Trees.{packed_in}
use Rattle.walk.proofs.packed.Goals as goal

pub returns : goal.returns
returns c =
    search packed_in
