-- `message3::refusal::read_refusal` meets its contract: the first of the three that is not 0.
-- Assumes nothing.
use Rattle.message3.proofs.Refusals.{frame-first, address-first}
use Rattle.message3.proofs.refusal.read_refusal.Goals as goal

pub returns-else-address-eq0 : goal.returns-else-address-eq0
returns-else-address-eq0 c =
    search address-first

pub returns-else-frame-eq0 : goal.returns-else-frame-eq0
returns-else-frame-eq0 c =
    search frame-first
