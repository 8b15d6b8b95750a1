-- `pending::awaited` meets its contract: a place that was found is one of the list.
-- Assumes nothing.
use Rattle.pending.proofs.Returns.{in_list}
use Rattle.pending.proofs.awaited.Goals as goal

pub target_at-requires : goal.target_at-requires
target_at-requires c =
    search (in_list, c.in_ok-place.was)
