-- `message::kind::platform_message` meets its contract: by the ID.
-- Assumes nothing.
use Rattle.message.proofs.Messages.{is-status, is-request, is-unknown, is-pull}
use Rattle.message.proofs.kind.platform_message.Goals as goal

pub returns-then-id-eq-PLATFORM_STATUS : goal.returns-then-id-eq-PLATFORM_STATUS
returns-then-id-eq-PLATFORM_STATUS c =
    search is-status

pub returns-then-id-eq-PLATFORM_STATUS_REQUEST : goal.returns-then-id-eq-PLATFORM_STATUS_REQUEST
returns-then-id-eq-PLATFORM_STATUS_REQUEST c =
    search is-request

pub returns-then-id-eq-UNKNOWN_OPERATION : goal.returns-then-id-eq-UNKNOWN_OPERATION
returns-then-id-eq-UNKNOWN_OPERATION c =
    search is-unknown

pub returns : goal.returns
returns c =
    search is-pull
