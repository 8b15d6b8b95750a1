-- `channel::steps::missed` meets its contract: the formula where a counter was seen, else 0.
-- Assumes nothing.
use Rattle.channel.proofs.Stepping.{some-missed, none-missed}
use Rattle.channel.proofs.steps.missed.Goals as goal

pub returns-then-channel : goal.returns-then-channel
returns-then-channel c =
    search some-missed

pub returns-else-channel : goal.returns-else-channel
returns-else-channel c =
    search none-missed
