-- `platform::reacting::on_pull` meets its contract.
-- Assumes nothing.
use Rattle.platform.proofs.ReactionLaws.{pulls-all, pulls-one}
use Rattle.platform.proofs.reacting.on_pull.Goals as goal

pub returns-then-id-eq-ALL_DATA : goal.returns-then-id-eq-ALL_DATA
returns-then-id-eq-ALL_DATA c =
    search pulls-all

pub returns-else-id-eq-ALL_DATA : goal.returns-else-id-eq-ALL_DATA
returns-else-id-eq-ALL_DATA c =
    search pulls-one
