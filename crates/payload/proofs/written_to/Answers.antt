-- `payload::written_to` meets its contract.
-- Assumes nothing.
use Rattle.payload.proofs.Calls.{at-stop, at_end}
use Rattle.payload.proofs.written_to.Goals as goal

pub returns-in-Stopped : goal.returns-in-Stopped
returns-in-Stopped c =
    search at-stop

pub returns-in-Went : goal.returns-in-Went
returns-in-Went c =
    search at_end
