-- `unpack_leaves::runs::store_run` meets its contract: all of a run of one code, or nothing.
-- Assumes nothing.
use Rattle.unpack_leaves.proofs.WholeRuns.{bytes_fit}
use Rattle.unpack_leaves.proofs.runs.store_run.Goals as goal

pub overflow_mul-many : goal.overflow_mul-many
overflow_mul-many c =
    search bytes_fit
