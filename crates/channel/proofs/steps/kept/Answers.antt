-- `channel::steps::kept` meets its contract: what was held, where nothing is missed.
-- Assumes nothing.
use Rattle.channel.proofs.Stepping.{is_kept, is_dropped}
use Rattle.channel.proofs.steps.kept.Goals as goal

pub returns-then-missed-eq0 : goal.returns-then-missed-eq0
returns-then-missed-eq0 c =
    search is_kept

pub returns-else-missed-eq0 : goal.returns-else-missed-eq0
returns-else-missed-eq0 c =
    search is_dropped
