-- `leaf::range_of` meets its contract: the range that the last word and the sign come to.
-- Assumes nothing.
use Rattle.leaf.proofs.Limits.{both-signs, no-signs}
use Rattle.leaf.proofs.codes.range_of.Goals as goal

pub returns-then-is_signed : goal.returns-then-is_signed
returns-then-is_signed c =
    search both-signs

pub returns-else-is_signed : goal.returns-else-is_signed
returns-else-is_signed c =
    search no-signs
