-- `platform::answering::is_answer` meets its contract.
-- Assumes nothing.
use Rattle.platform.proofs.ResponseLaws.{of_operation, of-another}
use Rattle.platform.proofs.answering.is_answer.Goals as goal

pub returns-in-Operation : goal.returns-in-Operation
returns-in-Operation c =
    search of_operation

pub returns-in_default : goal.returns-in_default
returns-in_default c =
    of-another _ _ _ c.in_default.not-Operation
