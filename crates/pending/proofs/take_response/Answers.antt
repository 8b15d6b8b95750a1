-- `pending::take_response` meets its contract: the place is looked up once.
-- Assumes nothing.
use Rattle.pending.proofs.Returns.{in_list}
use Rattle.pending.proofs.take_response.Goals as goal

pub is_for-requires : goal.is_for-requires
is_for-requires c =
    search in_list
