-- `nyrkovash::nyr_plans` meets its contract.
-- Assumes nothing.
use Rattle.nyrkovash.proofs.ByPlans.{laid-number, laid-left}
use Rattle.nyrkovash.proofs.plans.nyr_plans.Goals as goal

pub returns-in-Err-clause-value : goal.returns-in-Err-clause-value
returns-in-Err-clause-value c =
    search laid-number

pub returns-in-Err-clause-plans_after : goal.returns-in-Err-clause-plans_after
returns-in-Err-clause-plans_after c =
    search laid-left

pub returns-in-Ok-clause-value : goal.returns-in-Ok-clause-value
returns-in-Ok-clause-value c =
    search laid-number

pub returns-in-Ok-clause-plans_after : goal.returns-in-Ok-clause-plans_after
returns-in-Ok-clause-plans_after c =
    search laid-left
