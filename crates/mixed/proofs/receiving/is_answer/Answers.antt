-- `mixed::receiving::is_answer` meets its contract.
-- Assumes nothing.
use Rattle.mixed.proofs.Receipts.{of_operation, of-another}
use Rattle.mixed.proofs.receiving.is_answer.Goals as goal

pub returns-in-Operation : goal.returns-in-Operation
returns-in-Operation c =
    search of_operation

pub returns-in_default : goal.returns-in_default
returns-in_default c =
    of-another _ _ _ c.in_default.not-Operation
