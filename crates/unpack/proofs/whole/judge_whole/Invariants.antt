-- `unpack::whole::judge_whole` meets its contract: so many runs are good, and the walk is at this place.
-- Assumes nothing.
use mathlib.Core.List.{[]}
use lib.ListN.{length}
use Rattle.walk.specs.Walk.{start, Going}
use Rattle.unpack.specs.Reading.{Reading}
use Rattle.unpack.specs.RunByRun.{run_read}
use Rattle.unpack.proofs.whole.judge_whole.Given as goal

abbrev pub invariant-loop-k : goal.invariant-loop-k
invariant-loop-k l =
    Going (Reading l.payload) (run_read l.payload l.table l.runs) (length l.runs) 0 start [] l.k (record { from = l.from; to = l.to }) []
