-- `unpack::by_plan::judge_runs` meets its contract: so many runs are good, and the walk is at this place.
-- Assumes nothing.
use mathlib.Core.List.{[]}
use lib.ListN.{length}
use Rattle.walk.specs.Walk.{Going}
use Rattle.unpack.specs.Reading.{Reading}
use Rattle.unpack.specs.RunByRun.{run_read}
use Rattle.unpack.proofs.by_plan.judge_runs.Given as goal

abbrev pub invariant-loop-k : goal.invariant-loop-k
invariant-loop-k l =
    Going (Reading l.payload) (run_read l.payload l.table l.runs) (length l.runs) 0 (record { from = l.initial.from; to = l.initial.to }) []
    l.k (record { from = l.from; to = l.to }) []
