-- `replay::begin` meets its contract. The loop's invariant: what is filled lies in the input. Each turn fills more of it.
-- Assumes nothing.
use Prim.Native.Nat.{◌-◌, ◌≤◌}
use mathlib.Core.Path.{◌≡◌}
use lib.ListN.{length}
use Rattle.replay.specs.Bounds.{input_length}
use Rattle.replay.proofs.player.begin.Given as goal

abbrev pub invariant-loop-from : goal.invariant-loop-from
invariant-loop-from g l = (length l.input ≡ input_length) × (length l.input ≡ length l.initial.input) × (l.filled ≤ input_length)

abbrev pub decreases-loop-from : goal.decreases-loop-from
decreases-loop-from g l = input_length - l.filled
