-- `pending::is_for` meets its contract.
-- Assumes nothing.
use Rattle.pending.proofs.Returns.{asked-this}
use Rattle.pending.proofs.is_for.Goals as goal

pub returns : goal.returns
returns c =
    search asked-this
