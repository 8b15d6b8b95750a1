-- `binding::has_piece` meets its contract: a piece is there where it starts within the message.
-- Assumes nothing.
use Rattle.binding.proofs.Cuts.{product_fits, there-is, there-is-none}
use Rattle.binding.proofs.cutter.has_piece.Goals as goal

pub overflow_mul-result : goal.overflow_mul-result
overflow_mul-result c =
    search product_fits

pub returns-then-piece-total : goal.returns-then-piece-total
returns-then-piece-total c =
    search there-is

pub returns-else-piece-total : goal.returns-else-piece-total
returns-else-piece-total c =
    search there-is-none
