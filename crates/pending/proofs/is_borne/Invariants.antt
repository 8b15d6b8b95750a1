-- `pending::is_borne` meets its contract. The loop's invariant: what was found, or a place from k on, tells what all places do.
-- Assumes nothing.
use Rattle.std.proofs.Common.{◌≡◌, ◌-◌, ◌||◌}
use Rattle.pending.specs.Places.{bearing, first_bearing}
use Rattle.pending.specs.Free.{is_at}
use Rattle.pending.proofs.is_borne.Given as goal

abbrev pub invariant-loop-k : goal.invariant-loop-k
invariant-loop-k l = (l.found || is_at (bearing l.list l.number (64 - l.k) l.k)) ≡ is_at (first_bearing l.list l.number)
