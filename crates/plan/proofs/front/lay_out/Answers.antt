-- `plan::front::lay_out` meets its contract: the runs are laid out behind the index, and then it is written.
-- Assumes nothing.
use borrow.Author.Rules.{rules}
use Rattle.plan.proofs.WholePlans.{all-before, out-held}
use Rattle.plan.proofs.front.lay_out.Goals as goal

pub put_front-requires-clause-before : goal.put_front-requires-clause-before
put_front-requires-clause-before c =
    all-before _ _ _ _ (search rules) c.lay_runs.ensures.starts_after

pub returns : goal.returns
returns c =
    search out-held
