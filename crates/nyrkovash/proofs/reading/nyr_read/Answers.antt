-- `nyrkovash::nyr_read` meets its contract.
-- Assumes nothing.
use Rattle.nyrkovash.proofs.Words.{contents-known, read-refused, read-nothing, read_number, read-words}
use Rattle.nyrkovash.proofs.reading.nyr_read.Goals as goal

pub put_reading-requires : goal.put_reading-requires
put_reading-requires c =
    search contents-known

pub returns-then-number-eq0-clause-value : goal.returns-then-number-eq0-clause-value
returns-then-number-eq0-clause-value c =
    search read_number

pub returns-then-number-eq0-clause-answer_after : goal.returns-then-number-eq0-clause-answer_after
returns-then-number-eq0-clause-answer_after c =
    search read-words

pub returns-else-number-eq0-clause-value : goal.returns-else-number-eq0-clause-value
returns-else-number-eq0-clause-value c =
    search read-refused

pub returns-else-number-eq0-clause-answer_after : goal.returns-else-number-eq0-clause-answer_after
returns-else-number-eq0-clause-answer_after c =
    search read-nothing
