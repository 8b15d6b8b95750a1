-- `replay::read_behind` meets its contract: what came fits behind what is kept.
-- Assumes nothing.
use Rattle.replay.proofs.Bounds.{more-filled, more-counted}
use Rattle.replay.proofs.player.read_behind.Goals as goal

pub overflow_add-result : goal.overflow_add-result
overflow_add-result g c =
    search more-counted

pub returns-in-More : goal.returns-in-More
returns-in-More g c =
    search more-filled
