-- `platform_words::operation_heard` meets its contract: by domain and refusal.
-- Assumes nothing.
use Rattle.platform_words.proofs.Straight.{of_platform, was_read, unread}
use Rattle.platform_words.proofs.on_sections.operation_heard.Goals as goal

pub returns-then-number_at-eq-PLATFORM_DOMAIN : goal.returns-then-number_at-eq-PLATFORM_DOMAIN
returns-then-number_at-eq-PLATFORM_DOMAIN c =
    search of_platform

pub returns-then-read_refusal-eq0 : goal.returns-then-read_refusal-eq0
returns-then-read_refusal-eq0 c =
    search was_read

pub returns-else-read_refusal-eq0 : goal.returns-else-read_refusal-eq0
returns-else-read_refusal-eq0 c =
    search unread
