-- `platform_words::received` meets its contract: straight from its bytes, or what is answered.
-- Assumes nothing.
use Rattle.platform_words.proofs.Straight.{straight-number, straight-words, straight-output, straight-heard}
use Rattle.platform_words.proofs.Straight.{refused-number, refused-words, refused-heard}
use Rattle.platform_words.proofs.on_sections.received.Goals as goal

pub returns-then-kind-eq-NOTHING-clause-value : goal.returns-then-kind-eq-NOTHING-clause-value
returns-then-kind-eq-NOTHING-clause-value c =
    search refused-number

pub returns-then-kind-eq-NOTHING-clause-words_after : goal.returns-then-kind-eq-NOTHING-clause-words_after
returns-then-kind-eq-NOTHING-clause-words_after c =
    search refused-words

pub returns-then-kind-eq-NOTHING-clause-out_after : goal.returns-then-kind-eq-NOTHING-clause-out_after
returns-then-kind-eq-NOTHING-clause-out_after c =
    search straight-output

pub returns-then-kind-eq-NOTHING-clause-heard_after : goal.returns-then-kind-eq-NOTHING-clause-heard_after
returns-then-kind-eq-NOTHING-clause-heard_after c =
    search refused-heard

pub returns-else-kind-eq-NOTHING-clause-value : goal.returns-else-kind-eq-NOTHING-clause-value
returns-else-kind-eq-NOTHING-clause-value c =
    search straight-number

pub returns-else-kind-eq-NOTHING-clause-words_after : goal.returns-else-kind-eq-NOTHING-clause-words_after
returns-else-kind-eq-NOTHING-clause-words_after c =
    search straight-words

pub returns-else-kind-eq-NOTHING-clause-out_after : goal.returns-else-kind-eq-NOTHING-clause-out_after
returns-else-kind-eq-NOTHING-clause-out_after c =
    search straight-output

pub returns-else-kind-eq-NOTHING-clause-heard_after : goal.returns-else-kind-eq-NOTHING-clause-heard_after
returns-else-kind-eq-NOTHING-clause-heard_after c =
    search straight-heard
