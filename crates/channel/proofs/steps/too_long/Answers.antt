-- `channel::steps::too_long` meets its contract: nothing stays held.
-- Assumes nothing.
use Rattle.channel.proofs.Stepping.{all_dropped}
use Rattle.channel.proofs.steps.too_long.Goals as goal

pub returns : goal.returns
returns c =
    search all_dropped
