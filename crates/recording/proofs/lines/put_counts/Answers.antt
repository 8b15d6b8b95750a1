-- `recording::put_counts` meets its contract: one word behind another.
-- Assumes nothing.
use Rattle.recording.proofs.Putting.{put_one, put_next, end-one, end-next}
use Rattle.recording.proofs.lines.put_counts.Goals as goal

pub returns-clause-value : goal.returns-clause-value
returns-clause-value c = search (end-one, end-next)

pub returns-clause-line_after : goal.returns-clause-line_after
returns-clause-line_after c = search (put_one, put_next)
