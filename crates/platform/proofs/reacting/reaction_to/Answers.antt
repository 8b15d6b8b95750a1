-- `platform::reacting::reaction_to` meets its contract: each message has its own.
-- Assumes nothing.
use Rattle.platform.proofs.ReactionLaws.{to-status, to-request, to-unknown, to-pull, to-operation}
use Rattle.platform.proofs.reacting.reaction_to.Goals as goal

pub returns-in-PlatformStatus : goal.returns-in-PlatformStatus
returns-in-PlatformStatus c =
    search to-status

pub returns-in-PlatformStatusRequest : goal.returns-in-PlatformStatusRequest
returns-in-PlatformStatusRequest c =
    search to-request

pub returns-in-UnknownOperation : goal.returns-in-UnknownOperation
returns-in-UnknownOperation c =
    search to-unknown

pub returns-in-VersionedDataPull : goal.returns-in-VersionedDataPull
returns-in-VersionedDataPull c =
    search to-pull

pub returns-in-Operation : goal.returns-in-Operation
returns-in-Operation c =
    search to-operation
