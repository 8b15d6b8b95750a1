-- `recording::play_one` meets its contract: the datagram is taken, and its line is put.
-- Assumes nothing.
use Rattle.recording.proofs.Playing.{one_step}
use Rattle.recording.proofs.play_one.Goals as goal

pub returns : goal.returns
returns c =
    search one_step
