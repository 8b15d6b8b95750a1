-- `partners::set` meets its contract.
-- Assumes nothing.
use Rattle.partners.proofs.Returns.{one_set, not-set}
use Rattle.partners.proofs.set.Goals as goal

pub returns-then-at-words : goal.returns-then-at-words
returns-then-at-words c =
    search one_set

pub returns-else-k-lt-PLATFORMS : goal.returns-else-k-lt-PLATFORMS
returns-else-k-lt-PLATFORMS c =
    search not-set
