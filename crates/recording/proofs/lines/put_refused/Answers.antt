-- `recording::put_refused` meets its contract: the line that was made, in one.
-- Assumes nothing.
use Rattle.recording.proofs.LineLaws.{line-end, line-put}
use Rattle.recording.proofs.lines.put_refused.Goals as goal

pub returns-clause-value : goal.returns-clause-value
returns-clause-value c =
    search line-end

pub returns-clause-output_after : goal.returns-clause-output_after
returns-clause-output_after c =
    search line-put
