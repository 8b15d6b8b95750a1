-- `mixed::reacting::look_up` meets its contract.
-- Assumes nothing.
use Rattle.mixed.proofs.ReactionLaws.{for-pull, for-operation, for-no-other}
use Rattle.mixed.proofs.reacting.look_up.Goals as goal

pub returns-in-VersionedDataPull : goal.returns-in-VersionedDataPull
returns-in-VersionedDataPull c =
    search for-pull

pub returns-in-Operation : goal.returns-in-Operation
returns-in-Operation c =
    search for-operation

pub returns-in_default : goal.returns-in_default
returns-in_default c =
    for-no-other _ _ _ _ _ c.in_default.not-VersionedDataPull c.in_default.not-Operation
