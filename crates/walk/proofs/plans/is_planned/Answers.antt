-- `walk::plans::is_planned` meets its contract.
-- Assumes nothing.
use Rattle.walk.proofs.WherePlans.{planned-is}
use Rattle.walk.proofs.plans.is_planned.Goals as goal

pub returns : goal.returns
returns c =
    planned-is _ _ _ c.plan_of.ensures
