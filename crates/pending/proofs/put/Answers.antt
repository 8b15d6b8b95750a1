-- `pending::put` meets its contract: both words, one behind the other.
-- Assumes nothing.
use Rattle.pending.proofs.Returns.{both-put, not_put}
use Rattle.pending.proofs.put.Goals as goal

pub returns-then-k-lt-PLACES : goal.returns-then-k-lt-PLACES
returns-then-k-lt-PLACES c =
    search both-put

pub returns-else-k-lt-PLACES : goal.returns-else-k-lt-PLACES
returns-else-k-lt-PLACES c =
    search not_put
