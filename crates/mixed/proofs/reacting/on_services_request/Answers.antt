-- `mixed::reacting::on_services_request` meets its contract.
-- Assumes nothing.
use Rattle.mixed.proofs.ReactionLaws.{tells_all, tells-one}
use Rattle.mixed.proofs.reacting.on_services_request.Goals as goal

pub returns-then-id-eq-ALL_SERVICES : goal.returns-then-id-eq-ALL_SERVICES
returns-then-id-eq-ALL_SERVICES c =
    search tells_all

pub returns : goal.returns
returns c =
    search tells-one
