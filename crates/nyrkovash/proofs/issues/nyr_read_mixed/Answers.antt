-- `nyrkovash::nyr_read_mixed` meets its contract: by the form of the message.
-- Assumes nothing.
use Rattle.nyrkovash.proofs.IssueWords.{form-number, form-words}
use Rattle.nyrkovash.proofs.issues.nyr_read_mixed.Goals as goal

pub returns-in-Six-clause-value : goal.returns-in-Six-clause-value
returns-in-Six-clause-value c =
    search form-number

pub returns-in-Six-clause-answer_after : goal.returns-in-Six-clause-answer_after
returns-in-Six-clause-answer_after c =
    search form-words

pub returns-in-Three-clause-value : goal.returns-in-Three-clause-value
returns-in-Three-clause-value c =
    search form-number

pub returns-in-Three-clause-answer_after : goal.returns-in-Three-clause-answer_after
returns-in-Three-clause-answer_after c =
    search form-words

pub returns-in-Other-clause-value : goal.returns-in-Other-clause-value
returns-in-Other-clause-value c =
    search form-number

pub returns-in-Other-clause-answer_after : goal.returns-in-Other-clause-answer_after
returns-in-Other-clause-answer_after c =
    search form-words
