-- `states::turned` meets its contract: one bit of one word, or none.
-- Assumes nothing.
use Rattle.states.proofs.WordLaws.{turned_is, not_turned}
use Rattle.states.proofs.turned.Goals as goal

pub returns-then-k-lt-PLATFORMS : goal.returns-then-k-lt-PLATFORMS
returns-then-k-lt-PLATFORMS c =
    search turned_is

pub returns-else-k-lt-PLATFORMS : goal.returns-else-k-lt-PLATFORMS
returns-else-k-lt-PLATFORMS c =
    search not_turned
