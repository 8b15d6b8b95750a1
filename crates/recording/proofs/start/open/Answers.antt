-- `recording::open` meets its contract: what each test says.
-- Assumes nothing.
use Rattle.recording.proofs.Starting.{start-few, no_sizes, bad-start, no-ids, all_ids}
use Rattle.recording.proofs.start.open.Goals as goal

pub returns-then-input-lt-SIZES : goal.returns-then-input-lt-SIZES
returns-then-input-lt-SIZES c =
    search no_sizes

pub returns-then-input-count : goal.returns-then-input-count
returns-then-input-count c =
    search no-ids

pub set_up-requires : goal.set_up-requires
set_up-requires c =
    search start-few

pub returns-then-is_good_start : goal.returns-then-is_good_start
returns-then-is_good_start c =
    search all_ids

pub returns : goal.returns
returns c =
    search bad-start
