-- `payload::went_to` meets its contract.
-- Assumes nothing.
use Rattle.payload.proofs.Calls.{left_over, too_short, gave}
use Rattle.payload.proofs.went_to.Goals as goal

pub returns-then-q-len : goal.returns-then-q-len
returns-then-q-len c =
    search left_over

pub returns-then-room-q : goal.returns-then-room-q
returns-then-room-q c =
    search too_short

pub returns : goal.returns
returns c =
    search gave
