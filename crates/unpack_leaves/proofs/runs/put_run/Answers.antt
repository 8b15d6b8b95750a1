-- `unpack_leaves::runs::put_run` meets its contract: what there is no room for changes no word.
-- Assumes nothing.
use Rattle.unpack_leaves.proofs.OneCode.{room-filled, no-room-left}
use Rattle.unpack_leaves.proofs.runs.put_run.Goals as goal

pub returns-then-p-words : goal.returns-then-p-words
returns-then-p-words c =
    search room-filled

pub returns-else-p-words : goal.returns-else-p-words
returns-else-p-words c =
    search no-room-left
