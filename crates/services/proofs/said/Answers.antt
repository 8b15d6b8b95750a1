-- `services::said` meets its contract.
-- Assumes nothing.
use Rattle.services.proofs.Saying.{says-unheard, says-available, says-unavailable}
use Rattle.services.proofs.said.Goals as goal

pub returns-in-0 : goal.returns-in-0
returns-in-0 c =
    search says-unheard

pub returns-in-2 : goal.returns-in-2
returns-in-2 c =
    search says-available

pub returns-in_default : goal.returns-in_default
returns-in_default c =
    search says-unavailable
