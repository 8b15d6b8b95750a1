-- `unpack::times` meets its contract.
-- Assumes nothing.
use mathlib.Core.Path.{refl}
use Rattle.walk.proofs.Returns.{fixed-times}
use Rattle.unpack.proofs.ReadReturns.{counted-times}
use Rattle.unpack.proofs.walking.times.Goals as goal

pub returns-then-e-eq-FIXED : goal.returns-then-e-eq-FIXED
returns-then-e-eq-FIXED c =
    fixed-times _ _ _ _ c.if-e-eq-FIXED.true refl

pub returns-else-e-eq-FIXED : goal.returns-else-e-eq-FIXED
returns-else-e-eq-FIXED c =
    counted-times _ _ _ _ c.if-e-eq-FIXED.false c.number_at.ensures
