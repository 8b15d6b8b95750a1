-- `mixed_words::from_bytes::six_operation` meets its contract: by its domain, what refuses it and its sender's issue.
-- Assumes nothing.
use Rattle.mixed_words.proofs.SixOperations.{of-domain-0, not_read, of_three, looked-up}
use Rattle.mixed_words.proofs.from_bytes.six_operation.Goals as goal

pub returns-then-number_at-eq-PLATFORM_DOMAIN : goal.returns-then-number_at-eq-PLATFORM_DOMAIN
returns-then-number_at-eq-PLATFORM_DOMAIN c =
    search of-domain-0

pub returns-then-read_refusal-ne0 : goal.returns-then-read_refusal-ne0
returns-then-read_refusal-ne0 c =
    search not_read

pub returns-then-is_three : goal.returns-then-is_three
returns-then-is_three c =
    search of_three

pub returns : goal.returns
returns c =
    search looked-up
