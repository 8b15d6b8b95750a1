-- `states::is_up` meets its contract.
-- Assumes nothing.
use Rattle.states.proofs.WordLaws.{up_is}
use Rattle.states.proofs.is_up.Goals as goal

pub returns : goal.returns
returns c =
    search up_is
