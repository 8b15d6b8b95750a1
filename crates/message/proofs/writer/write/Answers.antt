-- `message::write` meets its contract: the refusal and the output as it was, or the message at the output's start.
-- Assumes nothing.
use Rattle.message.proofs.Written.{size_fits, answer-in, answer-not, output-in, output-not}
use Rattle.message.proofs.writer.write.Goals as goal

pub overflow_cast-payload : goal.overflow_cast-payload
overflow_cast-payload c =
    search size_fits

pub returns-then-number-eq0-clause-answer : goal.returns-then-number-eq0-clause-answer
returns-then-number-eq0-clause-answer c =
    search answer-in

pub returns-then-number-eq0-clause-output : goal.returns-then-number-eq0-clause-output
returns-then-number-eq0-clause-output c =
    search output-in

pub returns-else-number-eq0-clause-answer : goal.returns-else-number-eq0-clause-answer
returns-else-number-eq0-clause-answer c =
    search answer-not

pub returns-else-number-eq0-clause-output : goal.returns-else-number-eq0-clause-output
returns-else-number-eq0-clause-output c =
    search output-not
