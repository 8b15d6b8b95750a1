-- `message::kind::status_of` meets its contract: 0 is DOWN.
-- Assumes nothing.
use borrow.Author.Tests.{eq-eqb, ne_eqb}
use Rattle.message.proofs.kind.status_of.Goals as goal

pub returns-then-field-eq0 : goal.returns-then-field-eq0
returns-then-field-eq0 c =
    simp (eq-eqb _ _ c.if-field-eq0.true)

pub returns-else-field-eq0 : goal.returns-else-field-eq0
returns-else-field-eq0 c =
    simp (ne_eqb _ _ c.if-field-eq0.false)
