-- `pack::each::write_times` meets its contract: so many elements are written, and the walk is at this place.
-- Assumes nothing.
use Rattle.walk.specs.Walk.{Going}
use Rattle.pack.specs.Writing.{Writing}
use Rattle.pack.specs.ByPlan.{runs_written}
use Rattle.pack.proofs.each.write_times.Given as goal

abbrev pub invariant-loop-k : goal.invariant-loop-k
invariant-loop-k l = Going (Writing l.words) (runs_written l.words l.table l.runs) l.count l.from l.initial.at l.initial.out l.k l.at l.out
