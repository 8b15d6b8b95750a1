-- `states::with_word` meets its contract.
-- Assumes nothing.
use Rattle.states.proofs.WordLaws.{with-0, with-1, with-2, with-3}
use Rattle.states.proofs.with_word.Goals as goal

pub returns-in-0 : goal.returns-in-0
returns-in-0 c =
    search with-0

pub returns-in-1 : goal.returns-in-1
returns-in-1 c =
    search with-1

pub returns-in-2 : goal.returns-in-2
returns-in-2 c =
    search with-2

pub returns-in_default : goal.returns-in_default
returns-in_default c =
    search with-3
