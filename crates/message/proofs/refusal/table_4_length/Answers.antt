-- `message::refusal::table_4_length` meets its contract: a request has no field.
-- Assumes nothing.
use borrow.Author.Tests.{eq-eqb, ne_eqb}
use Rattle.message.proofs.refusal.table_4_length.Goals as goal

pub returns-then-id-eq-PLATFORM_STATUS_REQUEST : goal.returns-then-id-eq-PLATFORM_STATUS_REQUEST
returns-then-id-eq-PLATFORM_STATUS_REQUEST c =
    simp (eq-eqb _ _ c.if-id-eq-PLATFORM_STATUS_REQUEST.true)

pub returns-else-id-eq-PLATFORM_STATUS_REQUEST : goal.returns-else-id-eq-PLATFORM_STATUS_REQUEST
returns-else-id-eq-PLATFORM_STATUS_REQUEST c =
    simp (ne_eqb _ _ c.if-id-eq-PLATFORM_STATUS_REQUEST.false)
