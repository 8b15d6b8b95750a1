-- `services::word_for` meets its contract.
-- Assumes nothing.
use Rattle.services.proofs.Saying.{word-available, word-unavailable}
use Rattle.services.proofs.word_for.Goals as goal

pub returns-then-state-eq-TOLD_AVAILABLE : goal.returns-then-state-eq-TOLD_AVAILABLE
returns-then-state-eq-TOLD_AVAILABLE c =
    search word-available

pub returns-else-state-eq-TOLD_AVAILABLE : goal.returns-else-state-eq-TOLD_AVAILABLE
returns-else-state-eq-TOLD_AVAILABLE c =
    search word-unavailable
