-- `pack_leaves::runs::store_run` meets its contract: all of a run, or nothing.
-- Assumes nothing.
use Rattle.pack_leaves.proofs.StoredRuns.{run_short, run-few, run-all}
use Rattle.pack_leaves.proofs.runs.store_run.Goals as goal

pub returns-then-words-p : goal.returns-then-words-p
returns-then-words-p c =
    search run_short

pub returns-then-words-p-2 : goal.returns-then-words-p-2
returns-then-words-p-2 c =
    search run-few

pub returns : goal.returns
returns c =
    search run-all
