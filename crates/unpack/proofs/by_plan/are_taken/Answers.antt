-- `unpack::by_plan::are_taken` meets its contract: any words where the run has no values, and else those among them.
-- Assumes nothing.
use Rattle.unpack.proofs.Among.{taken-any, taken-values}
use Rattle.unpack.proofs.by_plan.are_taken.Goals as goal

pub returns-then-values-eq0 : goal.returns-then-values-eq0
returns-then-values-eq0 c =
    search taken-any

pub returns : goal.returns
returns c =
    search taken-values
