-- `mixed::receiving::of_three` meets its contract: a message that was refused, a response, or another.
-- Assumes nothing.
use Rattle.mixed.proofs.CallsThree.{unread, unread-output, unread-list, unread-words}
use Rattle.mixed.proofs.CallsThree.{response, response-output, response-list, response-words, other, other-output, other-list, other-words}
use Rattle.mixed.proofs.receiving.of_three.Goals as goal

pub returns-in-Refused-clause-answer : goal.returns-in-Refused-clause-answer
returns-in-Refused-clause-answer c =
    search unread

pub returns-in-Refused-clause-output : goal.returns-in-Refused-clause-output
returns-in-Refused-clause-output c =
    search unread-output

pub returns-in-Refused-clause-list : goal.returns-in-Refused-clause-list
returns-in-Refused-clause-list c =
    search unread-list

pub returns-in-Refused-clause-blocks : goal.returns-in-Refused-clause-blocks
returns-in-Refused-clause-blocks c =
    search unread-words

pub returns-then-is_answer-clause-answer : goal.returns-then-is_answer-clause-answer
returns-then-is_answer-clause-answer c =
    search response

pub returns-then-is_answer-clause-output : goal.returns-then-is_answer-clause-output
returns-then-is_answer-clause-output c =
    search response-output

pub returns-then-is_answer-clause-list : goal.returns-then-is_answer-clause-list
returns-then-is_answer-clause-list c =
    search response-list

pub returns-then-is_answer-clause-blocks : goal.returns-then-is_answer-clause-blocks
returns-then-is_answer-clause-blocks c =
    search response-words

pub returns-else-is_answer-clause-answer : goal.returns-else-is_answer-clause-answer
returns-else-is_answer-clause-answer c =
    search other

pub returns-else-is_answer-clause-output : goal.returns-else-is_answer-clause-output
returns-else-is_answer-clause-output c =
    search other-output

pub returns-else-is_answer-clause-list : goal.returns-else-is_answer-clause-list
returns-else-is_answer-clause-list c =
    search other-list

pub returns-else-is_answer-clause-blocks : goal.returns-else-is_answer-clause-blocks
returns-else-is_answer-clause-blocks c =
    search other-words
