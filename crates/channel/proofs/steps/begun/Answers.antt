-- `channel::steps::begun` meets its contract: held where it fits the room.
-- Assumes nothing.
use Rattle.channel.proofs.Stepping.{begun-held, begun-too-long}
use Rattle.channel.proofs.steps.begun.Goals as goal

pub returns-then-length-room : goal.returns-then-length-room
returns-then-length-room c =
    search begun-held

pub returns-else-length-room : goal.returns-else-length-room
returns-else-length-room c =
    search begun-too-long
