-- `nyrkovash::reading::kind_of` meets its contract: by the domain.
-- Assumes nothing.
use borrow.Author.Tests.{eq-eqb, ne_eqb}
use Rattle.nyrkovash.proofs.reading.kind_of.Goals as goal

pub returns-then-domain-eq-PLATFORM_DOMAIN : goal.returns-then-domain-eq-PLATFORM_DOMAIN
returns-then-domain-eq-PLATFORM_DOMAIN c =
    simp (eq-eqb _ _ c.if-domain-eq-PLATFORM_DOMAIN.true)

pub returns-else-domain-eq-PLATFORM_DOMAIN : goal.returns-else-domain-eq-PLATFORM_DOMAIN
returns-else-domain-eq-PLATFORM_DOMAIN c =
    simp (ne_eqb _ _ c.if-domain-eq-PLATFORM_DOMAIN.false)
