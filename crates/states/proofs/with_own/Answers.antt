-- `states::with_own` meets its contract: one bit of one word.
-- Assumes nothing.
use Rattle.states.proofs.WordLaws.{own_is}
use Rattle.states.proofs.with_own.Goals as goal

pub returns : goal.returns
returns c =
    search own_is
