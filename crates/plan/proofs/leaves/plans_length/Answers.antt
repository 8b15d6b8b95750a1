-- `plan::leaves::plans_length` meets its contract: the counts are filled in, and added up.
-- Assumes nothing.
use Rattle.plan.proofs.LeafLaws.{in_all}
use Rattle.plan.proofs.leaves.plans_length.Goals as goal

pub returns : goal.returns
returns c =
    search in_all
