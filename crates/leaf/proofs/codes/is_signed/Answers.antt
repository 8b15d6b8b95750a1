-- `leaf::is_signed` meets its contract.
-- Assumes nothing.
use Rattle.leaf.proofs.Limits.{signs}
use Rattle.leaf.proofs.codes.is_signed.Goals as goal

pub returns : goal.returns
returns c =
    search signs
