-- `leaf::among_at` meets its contract.
-- Assumes nothing.
use Rattle.leaf.proofs.Returns.{values_there}
use Rattle.leaf.proofs.words.among_at.Goals as goal

pub among_whole-requires : goal.among_whole-requires
among_whole-requires c =
    values_there _ _ c.has_room.ensures c.if-has_room.true
