-- `platform_words::taken` meets its contract: the list is lent by itself.
-- Assumes nothing.
use Rattle.platform_words.proofs.Straight.{taken-outcome, taken-list}
use Rattle.platform_words.proofs.on_sections.taken.Goals as goal

pub returns-clause-value : goal.returns-clause-value
returns-clause-value c =
    search taken-outcome

pub returns-clause-words_after : goal.returns-clause-words_after
returns-clause-words_after c =
    search taken-list
