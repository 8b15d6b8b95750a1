-- `joiner::records::rise` meets its contract. The loop's invariant: `Risen`.
-- Assumes nothing.
use Rattle.joiner.proofs.Looks.{Risen}
use Rattle.joiner.proofs.records.rise.Given as goal

abbrev pub invariant-loop-i : goal.invariant-loop-i
invariant-loop-i l = Risen l.state l.i l.next l.seens l.lasts
