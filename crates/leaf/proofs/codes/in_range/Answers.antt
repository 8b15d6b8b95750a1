-- `leaf::in_range` meets its contract.
-- Assumes nothing.
use Rattle.leaf.proofs.Limits.{tested}
use Rattle.leaf.proofs.codes.in_range.Goals as goal

pub returns : goal.returns
returns c =
    search tested
