-- `platform::settled` meets its contract: a message that was refused, the response to a request, or its reaction.
-- Assumes nothing.
use Rattle.platform.proofs.Receipts.{unread, unread-output, unread-list, is-response, response-output, response-list}
use Rattle.platform.proofs.Receipts.{was_read, read-output, read-list}
use Rattle.platform.proofs.settled.Goals as goal

pub returns-in-Refused-clause-answer : goal.returns-in-Refused-clause-answer
returns-in-Refused-clause-answer c =
    search unread

pub returns-in-Refused-clause-output : goal.returns-in-Refused-clause-output
returns-in-Refused-clause-output c =
    search unread-output

pub returns-in-Refused-clause-list : goal.returns-in-Refused-clause-list
returns-in-Refused-clause-list c =
    search unread-list

pub returns-then-is_answer-clause-answer : goal.returns-then-is_answer-clause-answer
returns-then-is_answer-clause-answer c =
    search is-response

pub returns-then-is_answer-clause-output : goal.returns-then-is_answer-clause-output
returns-then-is_answer-clause-output c =
    search response-output

pub returns-then-is_answer-clause-list : goal.returns-then-is_answer-clause-list
returns-then-is_answer-clause-list c =
    search response-list

pub returns-else-is_answer-clause-answer : goal.returns-else-is_answer-clause-answer
returns-else-is_answer-clause-answer c =
    search was_read

pub returns-else-is_answer-clause-output : goal.returns-else-is_answer-clause-output
returns-else-is_answer-clause-output c =
    search read-output

pub returns-else-is_answer-clause-list : goal.returns-else-is_answer-clause-list
returns-else-is_answer-clause-list c =
    search read-list
