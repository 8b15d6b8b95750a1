-- `recording::put_values` meets its contract: a refusal's number, or the two counts.
-- Assumes nothing.
use Rattle.recording.proofs.LineLaws.{counts_end, counts-put}
use Rattle.recording.proofs.lines.put_values.Goals as goal

pub returns-in_default-clause-value : goal.returns-in_default-clause-value
returns-in_default-clause-value c =
    search counts_end

pub returns-in_default-clause-line_after : goal.returns-in_default-clause-line_after
returns-in_default-clause-line_after c =
    search counts-put
