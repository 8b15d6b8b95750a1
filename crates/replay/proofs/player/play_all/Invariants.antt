-- `replay::play_all` meets its contract: it is safe, and ends with its turns.
-- Assumes nothing.
use Rattle.std.proofs.Common.{◌≡◌, ◌≤◌, length}
use Rattle.replay.specs.Bounds.{input_length}
use Rattle.replay.proofs.player.play_all.Given as goal

abbrev pub invariant-loop : goal.invariant-loop
invariant-loop g l = (length l.input ≡ input_length) × (l.filled ≤ input_length)
