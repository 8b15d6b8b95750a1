-- `pending::next_free` meets its contract. The loop's invariant: what the draws that are left find is what all of them do.
-- Assumes nothing.
use Rattle.std.proofs.Common.{◌≡◌, ◌-◌}
use Rattle.pending.specs.Free.{free_within, next_free}
use Rattle.pending.proofs.next_free.Given as goal

abbrev pub invariant-loop : goal.invariant-loop
invariant-loop l = free_within l.list (65 - l.counter) l.free ≡ next_free l.list l.number
