-- `recording::read_ids` meets its contract. The loop's invariant: the first i IDs are read.
-- Assumes nothing.
use Rattle.std.proofs.Common.{◌≡◌, length, take}
use Rattle.channel.specs.Record.{channel_limit}
use Rattle.recording.specs.Opening.{ids_in}
use Rattle.recording.proofs.start.read_ids.Given as goal

abbrev pub invariant-loop-i : goal.invariant-loop-i
invariant-loop-i l = (length l.ids ≡ channel_limit) × (take l.i l.ids ≡ ids_in l.input l.i)
