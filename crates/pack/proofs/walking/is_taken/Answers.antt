-- `pack::walking::is_taken` meets its contract: what was seen before is not judged again.
-- Assumes nothing.
use mathlib.Core.Path.{sym}
use native.Mathlib.Omega.{arith}
use Rattle.pack.proofs.walking.is_taken.Goals as goal

pub returns-else-room-eq0 : goal.returns-else-room-eq0
returns-else-room-eq0 c =
    sym (c.requires (omega (arith, c.if-room-eq0.false)))
