-- `pack::whole::set_byte` meets its contract: one byte, or none where the code is none.
-- Assumes nothing.
use Rattle.pack_leaves.proofs.Laid.{set-byte}
use Rattle.pack.proofs.WholeStores.{none_written}
use Rattle.pack.proofs.whole.set_byte.Goals as goal

pub returns-then-width-eq1 : goal.returns-then-width-eq1
returns-then-width-eq1 c =
    search set-byte

pub returns-else-width-eq1 : goal.returns-else-width-eq1
returns-else-width-eq1 c =
    search none_written
