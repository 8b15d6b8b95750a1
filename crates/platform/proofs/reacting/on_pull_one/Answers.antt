-- `platform::reacting::on_pull_one` meets its contract.
-- Assumes nothing.
use Rattle.platform.proofs.ReactionLaws.{one-data, one-event, one_missing}
use Rattle.platform.proofs.reacting.on_pull_one.Goals as goal

pub returns-then-is_data : goal.returns-then-is_data
returns-then-is_data c =
    search one-data

pub returns-else-is_data : goal.returns-else-is_data
returns-else-is_data c =
    search one-event

pub returns-in-None : goal.returns-in-None
returns-in-None c =
    search one_missing
