-- `nyrkovash::reading::refusal` meets its contract: the first of the three that is not 0.
-- Assumes nothing.
use Rattle.message.proofs.Refusals.{frame-first, address-first, contents-last}
use Rattle.nyrkovash.proofs.reading.refusal.Goals as goal

pub returns-then-address-eq0 : goal.returns-then-address-eq0
returns-then-address-eq0 c =
    search contents-last

pub returns-else-address-eq0 : goal.returns-else-address-eq0
returns-else-address-eq0 c =
    search address-first

pub returns-else-frame-eq0 : goal.returns-else-frame-eq0
returns-else-frame-eq0 c =
    search frame-first
