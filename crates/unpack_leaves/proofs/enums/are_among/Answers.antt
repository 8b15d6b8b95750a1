-- `unpack_leaves::enums::are_among` meets its contract: all of the leaves, or none.
-- Assumes nothing.
use Rattle.unpack_leaves.proofs.WholeRuns.{bytes_fit}
use Rattle.unpack_leaves.proofs.AmongValues.{among-judged, among-short}
use Rattle.unpack_leaves.proofs.enums.are_among.Goals as goal

pub overflow_mul-all : goal.overflow_mul-all
overflow_mul-all c =
    search bytes_fit

pub returns-then-has_room : goal.returns-then-has_room
returns-then-has_room c =
    search among-judged

pub returns-else-has_room : goal.returns-else-has_room
returns-else-has_room c =
    search among-short
