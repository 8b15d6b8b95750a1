-- `unpack::at_once::read_codes` meets its contract: the leaves that are there are read, and no more.
-- Assumes nothing.
use borrow.Author.Rules.{rules}
use Rattle.unpack.proofs.ReadBases.{part_length, part_small, upto-small, upto-most, part-reading, part-fits, part-goes}
use Rattle.unpack.proofs.at_once.read_codes.Goals as goal

pub slice_bounds-store_codes-end : goal.slice_bounds-store_codes-end
slice_bounds-store_codes-end c =
    search part_length

pub overflow_cast-result : goal.overflow_cast-result
overflow_cast-result c =
    search part_small

pub overflow_add-result : goal.overflow_add-result
overflow_add-result c =
    search upto-small

pub overflow_add-result-2 : goal.overflow_add-result-2
overflow_add-result-2 c =
    search part-fits

pub returns-clause-from_le_upto : goal.returns-clause-from_le_upto
returns-clause-from_le_upto c =
    (search rules, search upto-most, search part-reading)

pub returns-clause-by_index : goal.returns-clause-by_index
returns-clause-by_index c =
    λ f g. search part-goes
