-- `platform::reacting::came_up` meets its contract: two own numbers are drawn.
-- Assumes nothing.
use Rattle.platform.proofs.ReactionLaws.{came_up_is}
use Rattle.platform.proofs.reacting.came_up.Goals as goal

pub returns : goal.returns
returns c =
    search came_up_is
