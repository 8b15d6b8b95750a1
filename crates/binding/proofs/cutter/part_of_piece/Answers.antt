-- `binding::part_of_piece` meets its contract: by what is left from its start on.
-- Assumes nothing.
use Rattle.binding.proofs.Cuts.{start-in, start_fits, first_part, later-part}
use Rattle.binding.proofs.cutter.part_of_piece.Goals as goal

pub overflow_mul-last : goal.overflow_mul-last
overflow_mul-last c =
    search start_fits

pub overflow_sub-last : goal.overflow_sub-last
overflow_sub-last c =
    search start-in

pub returns-then-piece-eq0 : goal.returns-then-piece-eq0
returns-then-piece-eq0 c =
    search first_part

pub returns-else-piece-eq0 : goal.returns-else-piece-eq0
returns-else-piece-eq0 c =
    search later-part
