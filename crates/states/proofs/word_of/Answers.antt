-- `states::word_of` meets its contract.
-- Assumes nothing.
use Rattle.states.proofs.WordLaws.{word-0, word-1, word-2, word-3}
use Rattle.states.proofs.word_of.Goals as goal

pub returns-in-0 : goal.returns-in-0
returns-in-0 c =
    search word-0

pub returns-in-1 : goal.returns-in-1
returns-in-1 c =
    search word-1

pub returns-in-2 : goal.returns-in-2
returns-in-2 c =
    search word-2

pub returns-in_default : goal.returns-in_default
returns-in_default c =
    search word-3
