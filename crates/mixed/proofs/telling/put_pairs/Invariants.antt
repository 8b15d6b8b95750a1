-- `mixed::telling::put_pairs` meets its contract. The loop's invariant: the first i services stand in the output.
-- Assumes nothing.
use mathlib.Core.Path.{◌≡◌}
use lib.ListN.{take}
use Rattle.wire.specs.Bytes.{over}
use Rattle.message3.specs.Platform.{pair_bytes}
use Rattle.mixed.specs.Replies.{pairs_of, head_length}
use Rattle.mixed.proofs.telling.put_pairs.Given as goal

abbrev pub invariant-loop-i : goal.invariant-loop-i
invariant-loop-i l = l.out ≡ over l.initial.out head_length (pair_bytes (pairs_of (take l.i l.ours)))
