-- `mixed::reacting::reaction_to` meets its contract: each message has its own.
-- Assumes nothing.
use Rattle.mixed.proofs.ReactionLaws.{to-status, to-request, to-services, to-services-request, to-unknown, to-not-available}
use Rattle.mixed.proofs.ReactionLaws.{to-pull, to-change, to-ack, to-operation}
use Rattle.mixed.proofs.reacting.reaction_to.Goals as goal

pub returns-in-PlatformStatus : goal.returns-in-PlatformStatus
returns-in-PlatformStatus c =
    search to-status

pub returns-in-PlatformStatusRequest : goal.returns-in-PlatformStatusRequest
returns-in-PlatformStatusRequest c =
    search to-request

pub returns-in-AvailabilityStatus : goal.returns-in-AvailabilityStatus
returns-in-AvailabilityStatus c =
    search to-services

pub returns-in-AvailabilityStatusRequest : goal.returns-in-AvailabilityStatusRequest
returns-in-AvailabilityStatusRequest c =
    search to-services-request

pub returns-in-UnknownOperation : goal.returns-in-UnknownOperation
returns-in-UnknownOperation c =
    search to-unknown

pub returns-in-ServiceNotAvailable : goal.returns-in-ServiceNotAvailable
returns-in-ServiceNotAvailable c =
    search to-not-available

pub returns-in-VersionedDataPull : goal.returns-in-VersionedDataPull
returns-in-VersionedDataPull c =
    search to-pull

pub returns-in-CompositeChangeRequest : goal.returns-in-CompositeChangeRequest
returns-in-CompositeChangeRequest c =
    search to-change

pub returns-in-CompositeChangeRequestAck : goal.returns-in-CompositeChangeRequestAck
returns-in-CompositeChangeRequestAck c =
    search to-ack

pub returns-in-Operation : goal.returns-in-Operation
returns-in-Operation c =
    search to-operation
