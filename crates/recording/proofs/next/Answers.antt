-- `recording::next` meets its contract: what each test says.
-- Assumes nothing.
use Rattle.recording.proofs.Finding.{nothing-next, found-next, cut-datagram, cut-length}
use Rattle.recording.proofs.next.Goals as goal

pub returns-then-input-at : goal.returns-then-input-at
returns-then-input-at c =
    search nothing-next

pub returns-then-has_room-2 : goal.returns-then-has_room-2
returns-then-has_room-2 c =
    search found-next

pub returns-then-has_room : goal.returns-then-has_room
returns-then-has_room c =
    search cut-datagram

pub returns : goal.returns
returns c =
    search cut-length
