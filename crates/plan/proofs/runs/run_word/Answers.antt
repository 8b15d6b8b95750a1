-- `plan::runs::run_word` meets its contract: the fields fit their bits.
-- Assumes nothing.
use borrow.Author.Rules.{rules}
use Rattle.plan.specs.Layout.{run_word}
use Rattle.plan.proofs.runs.run_word.Goals as goal

pub returns : goal.returns
unfolding run_word
returns c =
    search rules
