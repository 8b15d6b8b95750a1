-- `platform::reacting::look_up` meets its contract.
-- Assumes nothing.
use Rattle.platform.proofs.ReactionLaws.{none-looked, is-looked}
use Rattle.platform.proofs.reacting.look_up.Goals as goal

pub returns-in-Refused : goal.returns-in-Refused
returns-in-Refused c =
    search none-looked

pub returns-in-Read : goal.returns-in-Read
returns-in-Read c =
    search is-looked
