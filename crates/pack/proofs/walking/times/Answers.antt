-- `pack::times` meets its contract.
-- Assumes nothing.
use mathlib.Core.Path.{refl}
use native.Mathlib.Omega.{arith}
use Rattle.walk.proofs.Returns.{fixed-times}
use Rattle.pack.proofs.WriteReturns.{counted-times, counted-fits}
use Rattle.pack.proofs.walking.times.Goals as goal

pub overflow_cast-result-else-e-eq-FIXED : goal.overflow_cast-result-else-e-eq-FIXED
overflow_cast-result-else-e-eq-FIXED c =
    counted-fits _ _ _ _ c.if-e-eq-FIXED.false c.word_at.ensures c.requires (omega (arith, c.well_formed.1.0))

pub returns-then-e-eq-FIXED : goal.returns-then-e-eq-FIXED
returns-then-e-eq-FIXED c =
    fixed-times _ _ _ _ c.if-e-eq-FIXED.true refl

pub returns-else-e-eq-FIXED : goal.returns-else-e-eq-FIXED
returns-else-e-eq-FIXED c =
    counted-times _ _ _ _ c.if-e-eq-FIXED.false c.word_at.ensures
