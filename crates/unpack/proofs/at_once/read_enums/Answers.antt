-- `unpack::at_once::read_enums` meets its contract: all elements, or none of them.
-- Assumes nothing.
use Rattle.unpack_leaves.proofs.WholeRuns.{bytes_fit}
use Rattle.unpack.proofs.Entries.{all-going}
use Rattle.unpack.proofs.at_once.read_enums.Goals as goal

pub overflow_mul-many : goal.overflow_mul-many
overflow_mul-many c =
    search bytes_fit

pub returns-then-are_taken : goal.returns-then-are_taken
returns-then-are_taken c =
    search all-going
