-- `platform_words::send` meets its contract: the sections lie in the table, or not.
-- Assumes nothing.
use Rattle.platform_words.proofs.Asking.{inside-number, inside-words, inside-output, inside-sent}
use Rattle.platform_words.proofs.Asking.{outside-number, outside-words, outside-output, outside-sent}
use Rattle.platform_words.proofs.sending.send.Goals as goal

pub returns-then-within-clause-value : goal.returns-then-within-clause-value
returns-then-within-clause-value c =
    search inside-number

pub returns-then-within-clause-platform_after : goal.returns-then-within-clause-platform_after
returns-then-within-clause-platform_after c =
    search inside-words

pub returns-then-within-clause-out_after : goal.returns-then-within-clause-out_after
returns-then-within-clause-out_after c =
    search inside-output

pub returns-then-within-clause-sent_after : goal.returns-then-within-clause-sent_after
returns-then-within-clause-sent_after c =
    search inside-sent

pub returns-else-within-clause-value : goal.returns-else-within-clause-value
returns-else-within-clause-value c =
    search outside-number

pub returns-else-within-clause-platform_after : goal.returns-else-within-clause-platform_after
returns-else-within-clause-platform_after c =
    search outside-words

pub returns-else-within-clause-out_after : goal.returns-else-within-clause-out_after
returns-else-within-clause-out_after c =
    search outside-output

pub returns-else-within-clause-sent_after : goal.returns-else-within-clause-sent_after
returns-else-within-clause-sent_after c =
    search outside-sent
