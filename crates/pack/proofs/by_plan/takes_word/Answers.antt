-- `pack::by_plan::takes_word` meets its contract.
-- Assumes nothing.
use Rattle.pack.proofs.PlanLeaves.{both_taken}
use Rattle.pack.proofs.by_plan.takes_word.Goals as goal

pub returns : goal.returns
returns c =
    search both_taken
