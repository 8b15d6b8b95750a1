-- `walk::plans::lying` meets its contract.
-- Assumes nothing.
use Rattle.walk.proofs.WherePlans.{lies, lies-not}
use Rattle.walk.proofs.plans.lying.Goals as goal

pub returns-then-has_room : goal.returns-then-has_room
returns-then-has_room c =
    lies _ _ _ _ c.has_room.ensures c.if-has_room.true

pub returns-else-has_room : goal.returns-else-has_room
returns-else-has_room c =
    lies-not _ _ _ _ c.has_room.ensures c.if-has_room.false
