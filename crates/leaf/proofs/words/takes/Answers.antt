-- `leaf::takes` meets its contract.
-- Assumes nothing.
use Rattle.leaf.proofs.Returns.{outside, of-enum, of-base}
use Rattle.leaf.proofs.words.takes.Goals as goal

pub returns-then-e-eq-ENUM : goal.returns-then-e-eq-ENUM
returns-then-e-eq-ENUM c =
    search of-enum

pub returns-else-e-eq-ENUM : goal.returns-else-e-eq-ENUM
returns-else-e-eq-ENUM c =
    search of-base

pub returns-else-allowed : goal.returns-else-allowed
returns-else-allowed c =
    search outside
