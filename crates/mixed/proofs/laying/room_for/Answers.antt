-- `mixed::laying::room_for` meets its contract.
-- Assumes nothing.
use Rattle.mixed.proofs.Rooms.{room-one, room-start-up, room-all-not, room-all, room-tell-one, room_none}
use Rattle.mixed.proofs.laying.room_for.Goals as goal

pub returns-in-One : goal.returns-in-One
returns-in-One c =
    search room-one

pub returns-in-StartUp : goal.returns-in-StartUp
returns-in-StartUp c =
    search room-start-up

pub returns-then-ours-ge-MOST_OURS : goal.returns-then-ours-ge-MOST_OURS
returns-then-ours-ge-MOST_OURS c =
    search room-all-not

pub returns-else-ours-ge-MOST_OURS : goal.returns-else-ours-ge-MOST_OURS
returns-else-ours-ge-MOST_OURS c =
    search room-all

pub returns-in-TellOne : goal.returns-in-TellOne
returns-in-TellOne c =
    search room-tell-one

pub returns-in_default : goal.returns-in_default
returns-in_default c =
    search room_none
