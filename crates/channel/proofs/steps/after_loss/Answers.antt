-- `channel::steps::after_loss` meets its contract: each message part has its step, and with nothing held what follows is stray.
-- Assumes nothing.
use Rattle.channel.proofs.Stepping.{placed-whole, placed-begin, stray-middle, stray-end}
use Rattle.channel.proofs.steps.after_loss.Goals as goal

pub returns-in-Whole : goal.returns-in-Whole
returns-in-Whole c =
    search placed-whole

pub returns-in-Begin : goal.returns-in-Begin
returns-in-Begin c =
    search placed-begin

pub returns-in-Middle : goal.returns-in-Middle
returns-in-Middle c =
    search stray-middle

pub returns-in-End : goal.returns-in-End
returns-in-End c =
    search stray-end
