-- `platform::reacting::on_status` meets its contract: of the 256 by their states, of the others nothing.
-- Assumes nothing.
use Rattle.platform.proofs.ReactionLaws.{with-state, without-state}
use Rattle.platform.proofs.reacting.on_status.Goals as goal

pub returns-then-sender-lt-PLATFORMS : goal.returns-then-sender-lt-PLATFORMS
returns-then-sender-lt-PLATFORMS c =
    search with-state

pub returns-else-sender-lt-PLATFORMS : goal.returns-else-sender-lt-PLATFORMS
returns-else-sender-lt-PLATFORMS c =
    search without-state
