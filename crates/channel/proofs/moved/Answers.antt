-- `channel::moved` meets its contract: the step of a record that can move, else a refusal.
-- Assumes nothing.
use Rattle.channel.proofs.Movable.{number_fits, long-enough, length-fits, steppable, is-moved, not-moved}
use Rattle.channel.proofs.moved.Goals as goal

pub overflow_cast-number : goal.overflow_cast-number
overflow_cast-number c =
    search number_fits

pub overflow_sub-piece : goal.overflow_sub-piece
overflow_sub-piece c =
    search long-enough

pub overflow_cast-piece : goal.overflow_cast-piece
overflow_cast-piece c =
    search length-fits

pub stepped-step-requires : goal.stepped-step-requires
stepped-step-requires c =
    search steppable

pub returns-then-can_move : goal.returns-then-can_move
returns-then-can_move c =
    search is-moved

pub returns-else-can_move : goal.returns-else-can_move
returns-else-can_move c =
    search not-moved
