-- `requests::write_for` meets its contract: by the target's issue.
-- Assumes nothing.
use Rattle.requests.proofs.Returns.{six-answer, six-output, three-answer, three-output}
use Rattle.requests.proofs.write_for.Goals as goal

pub returns-in-Six-clause-answer : goal.returns-in-Six-clause-answer
returns-in-Six-clause-answer c =
    search six-answer

pub returns-in-Six-clause-output : goal.returns-in-Six-clause-output
returns-in-Six-clause-output c =
    search six-output

pub returns-in-Three-clause-answer : goal.returns-in-Three-clause-answer
returns-in-Three-clause-answer c =
    search three-answer

pub returns-in-Three-clause-output : goal.returns-in-Three-clause-output
returns-in-Three-clause-output c =
    search three-output
