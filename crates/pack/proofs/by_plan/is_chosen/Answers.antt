-- `pack::by_plan::is_chosen` meets its contract.
-- Assumes nothing.
use Rattle.pack.proofs.PlanLeaves.{no-values, some-values}
use Rattle.pack.proofs.by_plan.is_chosen.Goals as goal

pub returns-then-count-eq0 : goal.returns-then-count-eq0
returns-then-count-eq0 c =
    search no-values

pub returns-else-count-eq0 : goal.returns-else-count-eq0
returns-else-count-eq0 c =
    search some-values
