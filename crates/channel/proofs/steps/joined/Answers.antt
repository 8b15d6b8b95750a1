-- `channel::steps::joined` meets its contract: an end is delivered, a middle is held.
-- Assumes nothing.
use Rattle.channel.proofs.Stepping.{end-joined, middle-joined}
use Rattle.channel.proofs.steps.joined.Goals as goal

pub returns-then-ends : goal.returns-then-ends
returns-then-ends c =
    search end-joined

pub returns-else-ends : goal.returns-else-ends
returns-else-ends c =
    search middle-joined
