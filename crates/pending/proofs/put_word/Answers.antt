-- `pending::put_word` meets its contract.
-- Assumes nothing.
use Rattle.pending.proofs.Returns.{not_set}
use Rattle.pending.proofs.put_word.Goals as goal

pub returns-else-at-list : goal.returns-else-at-list
returns-else-at-list c =
    search not_set
