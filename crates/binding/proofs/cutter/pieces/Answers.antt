-- `binding::pieces` meets its contract: 50, or the number of pieces.
-- Assumes nothing.
use Rattle.binding.proofs.Cuts.{counted, not_counted, said}
use Rattle.binding.proofs.cutter.pieces.Goals as goal

pub piece_count-requires : goal.piece_count-requires
piece_count-requires c =
    search said

pub returns-then-can_cut : goal.returns-then-can_cut
returns-then-can_cut c =
    search counted

pub returns-else-can_cut : goal.returns-else-can_cut
returns-else-can_cut c =
    search not_counted
