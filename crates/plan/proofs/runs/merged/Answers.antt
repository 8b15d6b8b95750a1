-- `plan::runs::merged` meets its contract: the leaves of both fit their field.
-- Assumes nothing.
use borrow.Author.Rules.{rules}
use Rattle.plan.specs.Layout.{merged}
use Rattle.plan.proofs.runs.merged.Goals as goal

pub returns : goal.returns
unfolding merged
returns c =
    search rules
