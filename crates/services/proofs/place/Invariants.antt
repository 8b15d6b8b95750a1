-- `services::place` meets its contract. The loop's invariant: no word before i bears the ID or is free.
-- Assumes nothing.
use Prim.Native.Nat.{◌≤◌}
use Rattle.services.specs.Block.{service_place}
use Rattle.services.proofs.place.Given as goal

abbrev pub invariant-loop-i : goal.invariant-loop-i
invariant-loop-i l = l.i ≤ service_place l.block l.id
