-- `pending::first_bearing` meets its contract. The loops' invariant: the places from the one on that is looked at find what all of
-- them do; and a turn of four starts at a multiple of four.
-- Assumes nothing.
use Rattle.std.proofs.Common.{◌≡◌, ◌-◌, ◌%◌, ◌≤◌}
use Rattle.pending.specs.Places.{bearing, first_bearing}
use Rattle.pending.proofs.first_bearing.Given as goal

abbrev pub invariant-loop-start : goal.invariant-loop-start
invariant-loop-start l = (bearing l.list l.number (64 - l.start) l.start ≡ first_bearing l.list l.number) × ((l.start ≤ 64) × (l.start % 4 ≡ 0))

abbrev pub decreases-loop-start : goal.decreases-loop-start
decreases-loop-start l = 64 - l.start

abbrev pub invariant-loop-k : goal.invariant-loop-k
invariant-loop-k l = bearing l.list l.number (64 - l.k) l.k ≡ first_bearing l.list l.number
