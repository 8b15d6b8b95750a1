-- `states::sum_of_ones` meets its contract.
-- Assumes nothing.
use Rattle.states.proofs.WordLaws.{the_sum}
use Rattle.states.proofs.sum_of_ones.Goals as goal

pub returns : goal.returns
returns c =
    search the_sum
