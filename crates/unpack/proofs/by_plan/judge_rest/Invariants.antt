-- `unpack::by_plan::judge_rest` meets its contract: so many runs are judged, and the walk is at this place.
-- Assumes nothing.
use mathlib.Core.List.{[]}
use lib.ListN.{length}
use Rattle.walk.specs.Walk.{Going}
use Rattle.unpack.specs.Reading.{Reading}
use Rattle.unpack.specs.RunByRun.{run_read}
use Rattle.unpack.proofs.by_plan.judge_rest.Given as goal

abbrev pub invariant-loop-k : goal.invariant-loop-k
invariant-loop-k l = Going (Reading l.payload) (run_read l.payload l.table l.runs) (length l.runs) l.first l.initial.at [] l.k l.at []
