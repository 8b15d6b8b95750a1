-- `walk::plans::indexed` meets its contract.
-- Assumes nothing.
use Rattle.walk.proofs.WherePlans.{none-indexed, is-indexed, not-indexed}
use Rattle.walk.proofs.plans.indexed.Goals as goal

pub returns-then-plans-at : goal.returns-then-plans-at
returns-then-plans-at c =
    none-indexed _ _ c.if-plans-at.true

pub returns-then-i-plans : goal.returns-then-i-plans
returns-then-i-plans c =
    is-indexed _ _ c.if-i-plans.true

pub returns-else-i-plans : goal.returns-else-i-plans
returns-else-i-plans c =
    not-indexed _ _ c.if-i-plans.false
