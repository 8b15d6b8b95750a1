-- `plan::runs::leaf_run` meets its contract: of an enum or a base.
-- Assumes nothing.
use Rattle.plan.proofs.Adding.{enum_run, base_run}
use Rattle.plan.proofs.runs.leaf_run.Goals as goal

pub returns-then-e-eq-ENUM : goal.returns-then-e-eq-ENUM
returns-then-e-eq-ENUM c =
    search enum_run

pub returns : goal.returns
returns c =
    search base_run
