-- `plan::runs::alike` meets its contract: two numbers are compared at a time.
-- Assumes nothing.
use borrow.Author.Rules.{rules}
use Rattle.plan.specs.Layout.{alike}
use Rattle.plan.proofs.runs.alike.Goals as goal

pub returns : goal.returns
unfolding alike
returns c =
    search rules
