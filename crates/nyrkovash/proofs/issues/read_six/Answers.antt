-- `nyrkovash::issues::read_six` meets its contract.
-- Assumes nothing.
use Rattle.nyrkovash.proofs.Words.{contents-known}
use Rattle.nyrkovash.proofs.IssueWords.{six-refused, six-nothing, six_number, six-words}
use Rattle.nyrkovash.proofs.issues.read_six.Goals as goal

pub put_six-requires : goal.put_six-requires
put_six-requires c =
    search contents-known

pub returns-then-number-eq0-clause-value : goal.returns-then-number-eq0-clause-value
returns-then-number-eq0-clause-value c =
    search six_number

pub returns-then-number-eq0-clause-answer_after : goal.returns-then-number-eq0-clause-answer_after
returns-then-number-eq0-clause-answer_after c =
    search six-words

pub returns-else-number-eq0-clause-value : goal.returns-else-number-eq0-clause-value
returns-else-number-eq0-clause-value c =
    search six-refused

pub returns-else-number-eq0-clause-answer_after : goal.returns-else-number-eq0-clause-answer_after
returns-else-number-eq0-clause-answer_after c =
    search six-nothing
