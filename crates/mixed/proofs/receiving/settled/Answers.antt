-- `mixed::receiving::settled` meets its contract: there is no room, no place for its services, or all is written.
-- Assumes nothing.
use Rattle.mixed.proofs.Receipts.{short, short-output, short-words, all-kept, all_laid, enough-words, not-kept, not-laid}
use Rattle.mixed.proofs.receiving.settled.Goals as goal

pub returns-in-Short-clause-answer : goal.returns-in-Short-clause-answer
returns-in-Short-clause-answer c =
    search short

pub returns-in-Short-clause-output : goal.returns-in-Short-clause-output
returns-in-Short-clause-output c =
    search short-output

pub returns-in-Short-clause-blocks : goal.returns-in-Short-clause-blocks
returns-in-Short-clause-blocks c =
    search short-words

pub returns-then-number-eq0-clause-answer : goal.returns-then-number-eq0-clause-answer
returns-then-number-eq0-clause-answer c =
    search all-kept

pub returns-then-number-eq0-clause-output : goal.returns-then-number-eq0-clause-output
returns-then-number-eq0-clause-output c =
    search all_laid

pub returns-then-number-eq0-clause-blocks : goal.returns-then-number-eq0-clause-blocks
returns-then-number-eq0-clause-blocks c =
    search enough-words

pub returns-else-number-eq0-clause-answer : goal.returns-else-number-eq0-clause-answer
returns-else-number-eq0-clause-answer c =
    search not-kept

pub returns-else-number-eq0-clause-output : goal.returns-else-number-eq0-clause-output
returns-else-number-eq0-clause-output c =
    search not-laid

pub returns-else-number-eq0-clause-blocks : goal.returns-else-number-eq0-clause-blocks
returns-else-number-eq0-clause-blocks c =
    search enough-words
