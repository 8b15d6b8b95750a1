-- `recording::make_line` meets its contract: the number, the name and the values.
-- Assumes nothing.
use Rattle.recording.proofs.LineLaws.{line_made}
use Rattle.recording.proofs.lines.make_line.Goals as goal

pub returns : goal.returns
returns c =
    search line_made
