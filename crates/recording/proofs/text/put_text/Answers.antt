-- `recording::put_text` meets its contract: the text is written where it fits, and the next goes behind it.
-- Assumes nothing.
use Rattle.std.proofs.Common.{rules}
use Rattle.wire.proofs.Runs.{no_run}
use Rattle.recording.proofs.Putting.{end_fits, put_behind, not_put}
use Rattle.recording.proofs.text.put_text.Goals as goal

pub overflow_add-result : goal.overflow_add-result
overflow_add-result c =
    search (rules, end_fits)

pub returns-then-has_room-clause-value : goal.returns-then-has_room-clause-value
returns-then-has_room-clause-value c =
    search put_behind

pub returns-else-has_room-clause-value : goal.returns-else-has_room-clause-value
returns-else-has_room-clause-value c =
    search not_put

pub returns-else-has_room-clause-output_after : goal.returns-else-has_room-clause-output_after
returns-else-has_room-clause-output_after c =
    search no_run
