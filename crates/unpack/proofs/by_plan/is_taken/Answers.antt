-- `unpack::by_plan::is_taken` meets its contract: any word where the run has no values, and else one of them.
-- Assumes nothing.
use Rattle.unpack.proofs.GoodRuns.{any-taken, taken-among}
use Rattle.unpack.proofs.by_plan.is_taken.Goals as goal

pub returns-then-values-eq0 : goal.returns-then-values-eq0
returns-then-values-eq0 c =
    search any-taken

pub returns : goal.returns
returns c =
    search taken-among
