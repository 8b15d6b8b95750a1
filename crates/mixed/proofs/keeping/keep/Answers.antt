-- `mixed::keeping::keep` meets its contract.
-- Assumes nothing.
use Rattle.mixed.proofs.Kept.{note-number, note-words, mark-number, mark-words, no_number, same_words}
use Rattle.mixed.proofs.keeping.keep.Goals as goal

pub returns-in-Note-clause-answer : goal.returns-in-Note-clause-answer
returns-in-Note-clause-answer c =
    search note-number

pub returns-in-Note-clause-blocks : goal.returns-in-Note-clause-blocks
returns-in-Note-clause-blocks c =
    search note-words

pub returns-in-MarkAll-clause-answer : goal.returns-in-MarkAll-clause-answer
returns-in-MarkAll-clause-answer c =
    search mark-number

pub returns-in-MarkAll-clause-blocks : goal.returns-in-MarkAll-clause-blocks
returns-in-MarkAll-clause-blocks c =
    search mark-words

pub returns-in_default-clause-answer : goal.returns-in_default-clause-answer
returns-in_default-clause-answer c =
    no_number _ _ _ _ _ c.in_default.not-Note c.in_default.not-MarkAll

pub returns-in_default-clause-blocks : goal.returns-in_default-clause-blocks
returns-in_default-clause-blocks c =
    same_words _ _ _ _ _ c.in_default.not-Note c.in_default.not-MarkAll
