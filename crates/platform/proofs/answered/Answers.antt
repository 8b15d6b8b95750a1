-- `platform::answered` meets its contract: all replies fit, or nothing changes.
-- Assumes nothing.
use Rattle.platform.proofs.ReplyLaws.{too_long, fitting, left_as_it_was, laid}
use Rattle.platform.proofs.answered.Goals as goal

pub returns-then-out-written-clause-answer : goal.returns-then-out-written-clause-answer
returns-then-out-written-clause-answer c =
    search too_long

pub returns-then-out-written-clause-output : goal.returns-then-out-written-clause-output
returns-then-out-written-clause-output c =
    search left_as_it_was

pub returns-else-out-written-clause-answer : goal.returns-else-out-written-clause-answer
returns-else-out-written-clause-answer c =
    search fitting

pub returns-else-out-written-clause-output : goal.returns-else-out-written-clause-output
returns-else-out-written-clause-output c =
    search laid
