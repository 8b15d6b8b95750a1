-- `platform::reacting::is_data` meets its contract.
-- Assumes nothing.
use Rattle.platform.proofs.ReactionLaws.{is-data}
use Rattle.platform.proofs.reacting.is_data.Goals as goal

pub returns : goal.returns
returns c =
    search is-data
