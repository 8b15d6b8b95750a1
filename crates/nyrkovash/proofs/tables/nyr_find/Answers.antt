-- `nyrkovash::nyr_find` meets its contract.
-- Assumes nothing.
use Rattle.nyrkovash.proofs.AsTheyLie.{operations-fit}
use Rattle.nyrkovash.proofs.Calling.{inside-number, found-there, found_none, outside-number, outside-answer}
use Rattle.nyrkovash.proofs.tables.nyr_find.Goals as goal

pub overflow_cast-count : goal.overflow_cast-count
overflow_cast-count c =
    search operations-fit

pub returns-in-Some-clause-value : goal.returns-in-Some-clause-value
returns-in-Some-clause-value c =
    search inside-number

pub returns-in-Some-clause-answer_after : goal.returns-in-Some-clause-answer_after
returns-in-Some-clause-answer_after c =
    search found-there

pub returns-in-None-clause-value : goal.returns-in-None-clause-value
returns-in-None-clause-value c =
    search inside-number

pub returns-in-None-clause-answer_after : goal.returns-in-None-clause-answer_after
returns-in-None-clause-answer_after c =
    search found_none

pub returns-else-lie_in-clause-value : goal.returns-else-lie_in-clause-value
returns-else-lie_in-clause-value c =
    search outside-number

pub returns-else-lie_in-clause-answer_after : goal.returns-else-lie_in-clause-answer_after
returns-else-lie_in-clause-answer_after c =
    search outside-answer
