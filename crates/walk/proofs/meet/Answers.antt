-- `walk::meet` meets its contract.
-- Assumes nothing.
use Rattle.walk.proofs.Trees.{met-by-word, not-met}
use Rattle.walk.proofs.meet.Goals as goal

pub returns-then-c-i : goal.returns-then-c-i
returns-then-c-i c =
    search met-by-word

pub returns-else-c-i : goal.returns-else-c-i
returns-else-c-i c =
    search not-met
