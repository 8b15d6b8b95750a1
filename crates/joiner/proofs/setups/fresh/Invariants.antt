-- `joiner::fresh` meets its contract. The loop's invariant: the first i records are those of the first i IDs, and the
-- others are as they were made.
-- Assumes nothing.
use Rattle.std.proofs.Common.{◌≡◌}
use Rattle.joiner.proofs.Making.{made_of}
use Rattle.joiner.proofs.setups.fresh.Given as goal

abbrev pub invariant-loop-i : goal.invariant-loop-i
invariant-loop-i l = l.channels ≡ made_of l.ids l.i
