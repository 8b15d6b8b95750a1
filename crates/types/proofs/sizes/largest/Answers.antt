-- `types::sizes::largest` meets its contract: a type of the table, and one that the room holds.
-- Assumes nothing.
use Rattle.types.proofs.SizeLaws.{is_known, is-unknown}
use Rattle.types.proofs.sizes.largest.Goals as goal

pub returns-then-is_type-i : goal.returns-then-is_type-i
returns-then-is_type-i c =
    search is_known

pub returns-else-is_type-i : goal.returns-else-is_type-i
returns-else-is_type-i c =
    search is-unknown
