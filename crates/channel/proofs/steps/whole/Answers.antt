-- `channel::steps::whole` meets its contract: the datagram's own piece is delivered, and nothing stays held.
-- Assumes nothing.
use Rattle.channel.proofs.Stepping.{whole_given}
use Rattle.channel.proofs.steps.whole.Goals as goal

pub returns : goal.returns
returns c =
    search whole_given
