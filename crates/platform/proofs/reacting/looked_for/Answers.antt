-- `platform::reacting::looked_for` meets its contract.
-- Assumes nothing.
use Rattle.platform.proofs.ReactionLaws.{none-for-other, for-pull, for-operation}
use Rattle.platform.proofs.reacting.looked_for.Goals as goal

pub returns-in-VersionedDataPull : goal.returns-in-VersionedDataPull
returns-in-VersionedDataPull c =
    search for-pull

pub returns-in-Operation : goal.returns-in-Operation
returns-in-Operation c =
    search for-operation

pub returns-in_default : goal.returns-in_default
returns-in_default c =
    none-for-other _ _ _ _ _ c.in_default.not-VersionedDataPull c.in_default.not-Operation
