-- `recording::make_refused` meets its contract: the words and the number.
-- Assumes nothing.
use Rattle.recording.proofs.LineLaws.{refused-made}
use Rattle.recording.proofs.lines.make_refused.Goals as goal

pub returns : goal.returns
returns c = search refused-made
