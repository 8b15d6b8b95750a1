-- `types::alike::enum_distinct` meets its contract: its values as the room has them, and nothing of another kind.
-- Assumes nothing.
use Rattle.types.proofs.Distinctness.{enum-compared, enum-outside, no-enum}
use Rattle.types.proofs.alike.enum_distinct.Goals as goal

pub returns-then-e-s : goal.returns-then-e-s
returns-then-e-s c =
    search enum-compared

pub returns-else-e-s : goal.returns-else-e-s
returns-else-e-s c =
    search enum-outside

pub returns-else-e-eq1 : goal.returns-else-e-eq1
returns-else-e-eq1 c =
    search no-enum
