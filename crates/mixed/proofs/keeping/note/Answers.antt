-- `mixed::keeping::note` meets its contract.
-- Assumes nothing.
use Rattle.mixed.proofs.Kept.{end_fits, noted-number, noted-words, no-note-number, no-note-words}
use Rattle.mixed.proofs.keeping.note.Goals as goal

pub overflow_add-end : goal.overflow_add-end
overflow_add-end c =
    search end_fits

pub returns-then-end-blocks-clause-answer : goal.returns-then-end-blocks-clause-answer
returns-then-end-blocks-clause-answer c =
    search noted-number

pub returns-then-end-blocks-clause-blocks : goal.returns-then-end-blocks-clause-blocks
returns-then-end-blocks-clause-blocks c =
    search noted-words

pub returns-else-end-blocks-clause-answer : goal.returns-else-end-blocks-clause-answer
returns-else-end-blocks-clause-answer c =
    search no-note-number

pub returns-else-end-blocks-clause-blocks : goal.returns-else-end-blocks-clause-blocks
returns-else-end-blocks-clause-blocks c =
    search no-note-words
