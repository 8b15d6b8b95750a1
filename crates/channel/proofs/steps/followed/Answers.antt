-- `channel::steps::followed` meets its contract: stray, joined or too long.
-- Assumes nothing.
use Rattle.channel.proofs.Stepping.{nothing-held, fits-behind, behind-too-long}
use Rattle.channel.proofs.steps.followed.Goals as goal

pub returns-then-channel-eq0 : goal.returns-then-channel-eq0
returns-then-channel-eq0 c =
    search nothing-held

pub returns-then-channel-length : goal.returns-then-channel-length
returns-then-channel-length c =
    search fits-behind

pub returns-else-channel-length : goal.returns-else-channel-length
returns-else-channel-length c =
    search behind-too-long
