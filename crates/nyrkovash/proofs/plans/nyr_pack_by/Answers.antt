-- `nyrkovash::nyr_pack_by` meets its contract.
-- Assumes nothing.
use Rattle.nyrkovash.proofs.ByPlans.{number-planned, left-planned, walked-planned, number_by, left_by, walked_by}
use Rattle.nyrkovash.proofs.plans.nyr_pack_by.Goals as goal

pub returns-then-is_planned-clause-value : goal.returns-then-is_planned-clause-value
returns-then-is_planned-clause-value c =
    search number-planned

pub returns-then-is_planned-clause-out_after : goal.returns-then-is_planned-clause-out_after
returns-then-is_planned-clause-out_after c =
    search left-planned

pub returns-then-is_planned-clause-walked_after : goal.returns-then-is_planned-clause-walked_after
returns-then-is_planned-clause-walked_after c =
    search walked-planned

pub returns-else-is_planned-clause-value : goal.returns-else-is_planned-clause-value
returns-else-is_planned-clause-value c =
    search number_by

pub returns-else-is_planned-clause-out_after : goal.returns-else-is_planned-clause-out_after
returns-else-is_planned-clause-out_after c =
    search left_by

pub returns-else-is_planned-clause-walked_after : goal.returns-else-is_planned-clause-walked_after
returns-else-is_planned-clause-walked_after c =
    search walked_by
