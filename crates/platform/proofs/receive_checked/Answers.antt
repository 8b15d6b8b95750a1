-- `platform::receive_checked` meets its contract: sections that do not lie in the bytes are refused.
-- Assumes nothing.
use Rattle.platform.proofs.Receipts.{inside, inside-output, inside-list, outside, outside-output, outside-list}
use Rattle.platform.proofs.receive_checked.Goals as goal

pub returns-then-within-clause-answer : goal.returns-then-within-clause-answer
returns-then-within-clause-answer c =
    search inside

pub returns-then-within-clause-output : goal.returns-then-within-clause-output
returns-then-within-clause-output c =
    search inside-output

pub returns-then-within-clause-list : goal.returns-then-within-clause-list
returns-then-within-clause-list c =
    search inside-list

pub returns-else-within-clause-answer : goal.returns-else-within-clause-answer
returns-else-within-clause-answer c =
    search outside

pub returns-else-within-clause-output : goal.returns-else-within-clause-output
returns-else-within-clause-output c =
    search outside-output

pub returns-else-within-clause-list : goal.returns-else-within-clause-list
returns-else-within-clause-list c =
    search outside-list
