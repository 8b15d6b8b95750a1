-- `platform_words::receive_in` meets its contract: the sections lie in the table, or not.
-- Assumes nothing.
use Rattle.platform_words.proofs.OnSections.{inside-number, inside-words, inside-output, inside-heard, outside-number}
use Rattle.platform_words.proofs.OnSections.{outside-words, outside-output, outside-heard}
use Rattle.platform_words.proofs.on_sections.receive_in.Goals as goal

pub returns-then-within-clause-value : goal.returns-then-within-clause-value
returns-then-within-clause-value c =
    search inside-number

pub returns-then-within-clause-platform_after : goal.returns-then-within-clause-platform_after
returns-then-within-clause-platform_after c =
    search inside-words

pub returns-then-within-clause-out_after : goal.returns-then-within-clause-out_after
returns-then-within-clause-out_after c =
    search inside-output

pub returns-then-within-clause-heard_after : goal.returns-then-within-clause-heard_after
returns-then-within-clause-heard_after c =
    search inside-heard

pub returns-else-within-clause-value : goal.returns-else-within-clause-value
returns-else-within-clause-value c =
    search outside-number

pub returns-else-within-clause-platform_after : goal.returns-else-within-clause-platform_after
returns-else-within-clause-platform_after c =
    search outside-words

pub returns-else-within-clause-out_after : goal.returns-else-within-clause-out_after
returns-else-within-clause-out_after c =
    search outside-output

pub returns-else-within-clause-heard_after : goal.returns-else-within-clause-heard_after
returns-else-within-clause-heard_after c =
    search outside-heard
