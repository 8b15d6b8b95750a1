-- `message3::write` meets its contract: the refusal and the output as it was, or the message at the output's start.
-- Assumes nothing.
use Rattle.message3.proofs.Written.{output-in}
use Rattle.message3.proofs.writer.write.Goals as goal

pub returns-then-number-eq0-clause-output : goal.returns-then-number-eq0-clause-output
returns-then-number-eq0-clause-output c =
    search output-in
