-- `pack::by_plan::write_runs` meets its contract: what is stored is what the walk leaves.
-- Assumes nothing.
use Rattle.pack.proofs.PlanStores.{written-did, word_there}
use Rattle.pack.proofs.by_plan.write_runs.Goals as goal

pub store_runs-requires : goal.store_runs-requires
store_runs-requires c =
    let pre = c.requires in
    let there = word_there _ _ _ _ _ c.judge_runs.ensures _ c.in-Went.is pre in
    (pre, there.0, there.1)

pub store_runs-requires-in-Stopped : goal.store_runs-requires-in-Stopped
store_runs-requires-in-Stopped c =
    let pre = c.requires in
    let there = word_there _ _ _ _ _ c.judge_runs.ensures _ c.in-Stopped.is pre in
    (pre, there.0, there.1)

pub returns-in-Went : goal.returns-in-Went
returns-in-Went c =
    let t = written-did _ _ _ _ _ c.judge_runs.ensures _ c.in-Went.is _ _ c.store_runs.ensures in record { value = t.0; out_after = t.1 }

pub returns-in-Stopped : goal.returns-in-Stopped
returns-in-Stopped c =
    let t = written-did _ _ _ _ _ c.judge_runs.ensures _ c.in-Stopped.is _ _ c.store_runs-in-Stopped.ensures in record { value = t.0; out_after = t.1 }
