-- `unpack_leaves::runs::judge_each` meets its contract: the two ends of a run of one code.
-- Assumes nothing.
use Rattle.unpack_leaves.proofs.WholeRuns.{bytes_fit, run-judged, run_short}
use Rattle.unpack_leaves.proofs.runs.judge_each.Goals as goal

pub overflow_mul-many : goal.overflow_mul-many
overflow_mul-many c =
    search bytes_fit

pub returns-then-has_room : goal.returns-then-has_room
returns-then-has_room c =
    search run-judged

pub returns-else-has_room : goal.returns-else-has_room
returns-else-has_room c =
    search run_short
