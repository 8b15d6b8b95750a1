-- `platform::reacting::on_state` meets its contract.
-- Assumes nothing.
use Rattle.platform.proofs.ReactionLaws.{still-up, down-to-up, up-to-down, still_down}
use Rattle.platform.proofs.reacting.on_state.Goals as goal

pub returns-then-up : goal.returns-then-up
returns-then-up c =
    search still-up

pub returns-else-up : goal.returns-else-up
returns-else-up c =
    search down-to-up

pub returns-then-up-2 : goal.returns-then-up-2
returns-then-up-2 c =
    search up-to-down

pub returns-else-up-2 : goal.returns-else-up-2
returns-else-up-2 c =
    search still_down
