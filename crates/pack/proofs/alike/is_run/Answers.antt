-- `pack::alike::is_run` meets its contract: what was seen before is not judged again.
-- Assumes nothing.
use native.Mathlib.Omega.{arith}
use borrow.Author.Tests.{ltb-true}
use Rattle.pack.proofs.alike.is_run.Goals as goal

pub returns-then-room-eq0 : goal.returns-then-room-eq0
returns-then-room-eq0 c t = c.judged.ensures t

pub returns-else-room-eq0 : goal.returns-else-room-eq0
returns-else-room-eq0 c t = c.requires.1 (omega (arith, c.if-room-eq0.false)) (ltb-true _ _ t)
