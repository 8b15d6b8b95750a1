-- `states::bit_of` meets its contract.
-- Assumes nothing.
use Rattle.states.proofs.WordLaws.{the_bit}
use Rattle.states.proofs.bit_of.Goals as goal

pub returns : goal.returns
returns c =
    search the_bit
