-- `requests::send_at` meets its contract: the message is written and the request entered, or nothing changes.
-- Assumes nothing.
use Rattle.requests.proofs.Returns.{sent-answer, sent-list, sent_output, not-sent-answer, not-sent-list}
use Rattle.requests.proofs.send_at.Goals as goal

pub returns-in-Written-clause-answer : goal.returns-in-Written-clause-answer
returns-in-Written-clause-answer c =
    search sent-answer

pub returns-in-Written-clause-list : goal.returns-in-Written-clause-list
returns-in-Written-clause-list c =
    search sent-list

pub returns-in-Written-clause-output : goal.returns-in-Written-clause-output
returns-in-Written-clause-output c =
    search sent_output

pub returns-in-Refused-clause-answer : goal.returns-in-Refused-clause-answer
returns-in-Refused-clause-answer c =
    search not-sent-answer

pub returns-in-Refused-clause-list : goal.returns-in-Refused-clause-list
returns-in-Refused-clause-list c =
    search not-sent-list

pub returns-in-Refused-clause-output : goal.returns-in-Refused-clause-output
returns-in-Refused-clause-output c =
    search sent_output
