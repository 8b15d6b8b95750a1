-- `joiner::looking::has_good_sizes` meets its contract: what each test says.
-- Assumes nothing.
use Rattle.joiner.proofs.Lookups.{count_fits, sizes-right, wrong-room, wrong-count}
use Rattle.joiner.proofs.looking.has_good_sizes.Goals as goal

pub overflow_cast-count : goal.overflow_cast-count
overflow_cast-count c =
    search count_fits

pub returns-then-room : goal.returns-then-room
returns-then-room c =
    search sizes-right

pub returns-then-count : goal.returns-then-count
returns-then-count c =
    search wrong-room

pub returns : goal.returns
returns c =
    search wrong-count
