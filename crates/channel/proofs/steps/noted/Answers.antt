-- `channel::steps::noted` meets its contract: the counter, and what is kept.
-- Assumes nothing.
use Rattle.channel.proofs.Stepping.{is-noted}
use Rattle.channel.proofs.steps.noted.Goals as goal

pub returns : goal.returns
returns c =
    search is-noted
