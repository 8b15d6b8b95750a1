-- `leaf::truth` meets its contract.
-- Assumes nothing.
use Rattle.leaf.proofs.Returns.{is_false, is_true}
use Rattle.leaf.proofs.words.truth.Goals as goal

pub returns-then-x-eq0 : goal.returns-then-x-eq0
returns-then-x-eq0 c =
    search is_false

pub returns-else-x-eq0 : goal.returns-else-x-eq0
returns-else-x-eq0 c =
    search is_true
