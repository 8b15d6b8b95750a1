-- `mixed::receive_checked` meets its contract: the sections lie in the table, or it is 30.
-- Assumes nothing.
use Rattle.mixed.proofs.OnTables.{inside, inside-output, inside-list, inside-words}
use Rattle.mixed.proofs.OnTables.{outside, outside-output, outside-list, outside-words}
use Rattle.mixed.proofs.receive_checked.Goals as goal

pub returns-then-within-clause-answer : goal.returns-then-within-clause-answer
returns-then-within-clause-answer c =
    search inside

pub returns-then-within-clause-output : goal.returns-then-within-clause-output
returns-then-within-clause-output c =
    search inside-output

pub returns-then-within-clause-list : goal.returns-then-within-clause-list
returns-then-within-clause-list c =
    search inside-list

pub returns-then-within-clause-blocks : goal.returns-then-within-clause-blocks
returns-then-within-clause-blocks c =
    search inside-words

pub returns-else-within-clause-answer : goal.returns-else-within-clause-answer
returns-else-within-clause-answer c =
    search outside

pub returns-else-within-clause-output : goal.returns-else-within-clause-output
returns-else-within-clause-output c =
    search outside-output

pub returns-else-within-clause-list : goal.returns-else-within-clause-list
returns-else-within-clause-list c =
    search outside-list

pub returns-else-within-clause-blocks : goal.returns-else-within-clause-blocks
returns-else-within-clause-blocks c =
    search outside-words
