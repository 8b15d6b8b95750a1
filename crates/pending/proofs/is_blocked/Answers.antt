-- `pending::is_blocked` meets its contract.
-- Assumes nothing.
use Rattle.pending.proofs.Returns.{zero-blocked, as-borne}
use Rattle.pending.proofs.is_blocked.Goals as goal

pub returns-then-number-eq0 : goal.returns-then-number-eq0
returns-then-number-eq0 c =
    search zero-blocked

pub returns : goal.returns
returns c =
    search as-borne
