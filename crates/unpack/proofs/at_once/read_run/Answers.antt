-- `unpack::at_once::read_run` meets its contract: all elements, or none of them.
-- Assumes nothing.
use Rattle.unpack_leaves.proofs.WholeRuns.{bytes_fit}
use Rattle.unpack.proofs.ReadBases.{run-from-fits, run_going}
use Rattle.unpack.proofs.at_once.read_run.Goals as goal

pub overflow_mul-result : goal.overflow_mul-result
overflow_mul-result c =
    search bytes_fit

pub overflow_add-result : goal.overflow_add-result
overflow_add-result c =
    search run-from-fits

pub returns-then-judge_run : goal.returns-then-judge_run
returns-then-judge_run c =
    search run_going
