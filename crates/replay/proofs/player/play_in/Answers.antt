-- `replay::play_in` meets its contract: the rooms lie in the program's.
-- Assumes nothing.
use Rattle.replay.proofs.Bounds.{rooms_part}
use Rattle.replay.proofs.player.play_in.Goals as goal

pub slice_bounds-play_all-end : goal.slice_bounds-play_all-end
slice_bounds-play_all-end g c =
    search rooms_part
