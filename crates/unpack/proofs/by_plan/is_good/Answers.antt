-- `unpack::by_plan::is_good` meets its contract.
-- Assumes nothing.
use Rattle.unpack.proofs.GoodRuns.{has-bytes, bad-run, by_values}
use Rattle.unpack.proofs.by_plan.is_good.Goals as goal

pub are_taken-requires : goal.are_taken-requires
are_taken-requires c =
    search has-bytes

pub returns-then-are_allowed : goal.returns-then-are_allowed
returns-then-are_allowed c =
    search by_values

pub returns-else-are_allowed : goal.returns-else-are_allowed
returns-else-are_allowed c =
    search bad-run
