-- `walk::base_of` meets its contract.
-- Assumes nothing.
use Rattle.walk.proofs.Bases.{a_base, no-base}
use Rattle.walk.proofs.base_of.Goals as goal

pub returns-then-e : goal.returns-then-e
returns-then-e c =
    search a_base

pub returns-else-e : goal.returns-else-e
returns-else-e c =
    search no-base
