-- `nyrkovash::told` meets its contract: the number and the words of each case.
-- Assumes nothing.
use Rattle.nyrkovash.proofs.Giving.{at-stop, at_end}
use Rattle.nyrkovash.proofs.payloads.told.Goals as goal

pub returns-in-Stopped : goal.returns-in-Stopped
returns-in-Stopped c =
    let t = at-stop _ _ _ _ c.in-Stopped.is in record { value = t.0; walked_after = t.1 }

pub returns-in-Gave : goal.returns-in-Gave
returns-in-Gave c =
    let t = at_end _ _ _ c.in-Gave.is in record { value = t.0; walked_after = t.1 }
