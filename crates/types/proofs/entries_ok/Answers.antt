-- `types::entries_ok` meets its contract: the types first, and then the operations.
-- Assumes nothing.
use Rattle.types.proofs.Tables.{types-then, types-bad}
use Rattle.types.proofs.entries_ok.Goals as goal

pub returns-then-types_ok : goal.returns-then-types_ok
returns-then-types_ok c =
    search types-then

pub returns-else-types_ok : goal.returns-else-types_ok
returns-else-types_ok c =
    search types-bad
