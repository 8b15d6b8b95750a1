-- `services::tell_all` meets its contract. The loop's invariant: the first i pairs had a place, and are told.
-- Assumes nothing.
use mathlib.Core.Path.{◌≡◌}
use mathlib.Core.Bool.{true}
use Rattle.wire.specs.All.{all_below}
use Rattle.services.specs.Block.{pairs_told, has_place}
use Rattle.services.proofs.tell_all.Given as goal

abbrev pub invariant-loop-i : goal.invariant-loop-i
invariant-loop-i l =
    (l.block ≡ pairs_told l.initial.block l.payload l.i) × (all_below (has_place l.initial.block l.payload) l.i ≡ true)
