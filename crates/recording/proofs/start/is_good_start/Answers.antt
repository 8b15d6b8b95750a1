-- `recording::is_good_start` meets its contract: what each test says.
-- Assumes nothing.
use Rattle.joiner.proofs.Lookups.{count_fits}
use Rattle.recording.proofs.Starting.{start-judged, wrong-room, wrong-count}
use Rattle.recording.proofs.start.is_good_start.Goals as goal

pub overflow_cast-count : goal.overflow_cast-count
overflow_cast-count c =
    search count_fits

pub returns-then-room : goal.returns-then-room
returns-then-room c =
    search start-judged

pub returns-then-count : goal.returns-then-count
returns-then-count c =
    search wrong-room

pub returns : goal.returns
returns c =
    search wrong-count
