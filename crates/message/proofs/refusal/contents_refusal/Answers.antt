-- `message::refusal::contents_refusal` meets its contract: each return is the first number that applies.
-- Assumes nothing.
use Rattle.message.proofs.Refusals.{contents-0, contents-7, contents-8, contents-9, contents-other, contents-stateless}
use Rattle.message.proofs.refusal.contents_refusal.Goals as goal

pub returns-then-domain-ne-PLATFORM_DOMAIN : goal.returns-then-domain-ne-PLATFORM_DOMAIN
returns-then-domain-ne-PLATFORM_DOMAIN c =
    search contents-other

pub returns-then-reserved_id : goal.returns-then-reserved_id
returns-then-reserved_id c =
    search contents-7

pub returns-then-payload-table_4_length : goal.returns-then-payload-table_4_length
returns-then-payload-table_4_length c =
    search contents-8

pub returns-then-id-ne-PLATFORM_STATUS : goal.returns-then-id-ne-PLATFORM_STATUS
returns-then-id-ne-PLATFORM_STATUS c =
    search contents-stateless

pub returns-then-number_at-ge-RESERVED_STATES : goal.returns-then-number_at-ge-RESERVED_STATES
returns-then-number_at-ge-RESERVED_STATES c =
    search contents-9

pub returns : goal.returns
returns c =
    search contents-0
