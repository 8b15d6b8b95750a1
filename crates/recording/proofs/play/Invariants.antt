-- `recording::play` meets its contract. The loop's invariant: playing on from here comes to what playing from the start
-- comes to.
-- Assumes nothing.
use Rattle.std.proofs.Common.{◌≡◌, ◌-◌, length}
use Rattle.recording.specs.Play.{state_of, played}
use Rattle.recording.proofs.play.Given as goal

abbrev pub invariant-loop-start : goal.invariant-loop-start
invariant-loop-start l =
    (length l.rooms ≡ length l.initial.rooms)
    × (length l.output ≡ length l.initial.output)
    × (played l.input (state_of l.initial.run l.initial.rooms l.initial.output) ≡ played l.input (state_of l.run l.rooms l.output))

abbrev pub decreases-loop-start : goal.decreases-loop-start
decreases-loop-start l = length l.input - l.run.at
