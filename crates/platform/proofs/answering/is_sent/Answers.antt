-- `platform::answering::is_sent` meets its contract: the kind of what was found.
-- Assumes nothing.
use Rattle.platform.proofs.ResponseLaws.{sent_found, none_found}
use Rattle.platform.proofs.answering.is_sent.Goals as goal

pub returns : goal.returns
returns c =
    search sent_found

pub returns-in_default : goal.returns-in_default
returns-in_default c =
    search none_found
