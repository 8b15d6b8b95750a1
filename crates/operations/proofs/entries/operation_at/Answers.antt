-- `operations::entries::operation_at` meets its contract: its fields are the parts of its head, and what stands behind.
-- Assumes nothing.
use Rattle.operations.proofs.Heads.{operation_read}
use Rattle.operations.proofs.entries.operation_at.Goals as goal

pub returns : goal.returns
returns c =
    search operation_read
