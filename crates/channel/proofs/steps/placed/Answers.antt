-- `channel::steps::placed` meets its contract: each message part has its step.
-- Assumes nothing.
use Rattle.channel.proofs.Stepping.{placed-whole, placed-begin, placed-middle, placed_end}
use Rattle.channel.proofs.steps.placed.Goals as goal

pub returns-in-Whole : goal.returns-in-Whole
returns-in-Whole c =
    search placed-whole

pub returns-in-Begin : goal.returns-in-Begin
returns-in-Begin c =
    search placed-begin

pub returns-in-Middle : goal.returns-in-Middle
returns-in-Middle c =
    search placed-middle

pub returns-in-End : goal.returns-in-End
returns-in-End c =
    search placed_end
