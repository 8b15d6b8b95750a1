-- `unpack::by_plan::judge_leaf` meets its contract: the three ends of a leaf.
-- Assumes nothing.
use Rattle.unpack.proofs.LeafByLeaf.{judged-short, judged-bad, judged-went}
use Rattle.unpack.proofs.by_plan.judge_leaf.Goals as goal

pub returns-then-allowed-is_taken : goal.returns-then-allowed-is_taken
returns-then-allowed-is_taken c =
    search judged-went

pub returns-else-allowed-is_taken : goal.returns-else-allowed-is_taken
returns-else-allowed-is_taken c =
    search judged-bad

pub returns-else-has_room : goal.returns-else-has_room
returns-else-has_room c =
    search judged-short
