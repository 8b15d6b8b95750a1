-- `unpack::by_plan::judge_leaves` meets its contract: so many leaves are judged, and the walk is at this place.
-- Assumes nothing.
use mathlib.Core.List.{[]}
use Rattle.walk.specs.Walk.{Going}
use Rattle.unpack.specs.Reading.{Reading}
use Rattle.unpack.specs.RunByRun.{leaf_read}
use Rattle.unpack.proofs.by_plan.judge_leaves.Given as goal

abbrev pub invariant-loop : goal.invariant-loop
invariant-loop l = Going (Reading l.payload) (leaf_read l.payload l.table l.run) l.many 0 l.initial.at [] l.counter l.at []
