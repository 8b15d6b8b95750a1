-- `message::kind::message_of` meets its contract: by the domain.
-- Assumes nothing.
use Rattle.message.proofs.Messages.{of_platform, of_operation}
use Rattle.message.proofs.kind.message_of.Goals as goal

pub returns-then-domain-eq-PLATFORM_DOMAIN : goal.returns-then-domain-eq-PLATFORM_DOMAIN
returns-then-domain-eq-PLATFORM_DOMAIN c =
    search of_platform

pub returns-else-domain-eq-PLATFORM_DOMAIN : goal.returns-else-domain-eq-PLATFORM_DOMAIN
returns-else-domain-eq-PLATFORM_DOMAIN c =
    search of_operation
