-- `walk::plans::plan_of` meets its contract.
-- Assumes nothing.
use Rattle.walk.proofs.WherePlans.{plan-is}
use Rattle.walk.proofs.plans.plan_of.Goals as goal

pub returns : goal.returns
returns c =
    plan-is _ _ _ _ c.indexed-word.ensures c.lying.ensures
