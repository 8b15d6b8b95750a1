-- `states::how_many_up` meets its contract.
-- Assumes nothing.
use Rattle.states.proofs.WordLaws.{many_are}
use Rattle.states.proofs.how_many_up.Goals as goal

pub returns : goal.returns
returns c =
    search many_are
