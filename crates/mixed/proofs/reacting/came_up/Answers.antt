-- `mixed::reacting::came_up` meets its contract: three own numbers are drawn.
-- Assumes nothing.
use Rattle.mixed.proofs.ReactionLaws.{came_up_is}
use Rattle.mixed.proofs.reacting.came_up.Goals as goal

pub returns : goal.returns
returns c =
    search came_up_is
