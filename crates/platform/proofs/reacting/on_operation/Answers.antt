-- `platform::reacting::on_operation` meets its contract.
-- Assumes nothing.
use Rattle.platform.proofs.ReactionLaws.{operation-in, operation-not-in}
use Rattle.platform.proofs.reacting.on_operation.Goals as goal

pub returns-in-Some : goal.returns-in-Some
returns-in-Some c =
    search operation-in

pub returns-in-None : goal.returns-in-None
returns-in-None c =
    search operation-not-in
