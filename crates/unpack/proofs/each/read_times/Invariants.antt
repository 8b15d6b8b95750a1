-- `unpack::each::read_times` meets its contract: so many elements are read, and the walk is at this place.
-- Assumes nothing.
use Rattle.walk.specs.Walk.{Going}
use Rattle.unpack.specs.Reading.{Reading}
use Rattle.unpack.specs.RunByRun.{runs_read}
use Rattle.unpack.proofs.each.read_times.Given as goal

abbrev pub invariant-loop-k : goal.invariant-loop-k
invariant-loop-k l = Going (Reading l.payload) (runs_read l.payload l.table l.runs) l.count 0 l.initial.at l.initial.words l.k l.at l.words
