-- `platform::reacting::on_pull_all` meets its contract.
-- Assumes nothing.
use Rattle.platform.proofs.ReactionLaws.{all_of_none, all_of_some}
use Rattle.platform.proofs.reacting.on_pull_all.Goals as goal

pub returns-then-has_data : goal.returns-then-has_data
returns-then-has_data c =
    search all_of_some

pub returns-else-has_data : goal.returns-else-has_data
returns-else-has_data c =
    search all_of_none
