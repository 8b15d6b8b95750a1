-- `recording::keep` meets its contract: the bytes stand at the front, and all behind them is as it was.
-- Assumes nothing.
use Rattle.recording.proofs.Keeping.{keep_all, kept-count, no-count, not-moved}
use Rattle.recording.proofs.blocks.keep.Goals as goal

pub returns-then-has_room-clause-value : goal.returns-then-has_room-clause-value
returns-then-has_room-clause-value c =
    search kept-count

pub returns-then-has_room-clause-buffer_after : goal.returns-then-has_room-clause-buffer_after
returns-then-has_room-clause-buffer_after c =
    search keep_all

pub returns-clause-value : goal.returns-clause-value
returns-clause-value c =
    search no-count

pub returns-clause-buffer_after : goal.returns-clause-buffer_after
returns-clause-buffer_after c =
    search not-moved
