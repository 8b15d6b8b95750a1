-- `unpack::each::are_single` meets its contract. The loop's invariant: the first k runs are single, of the first k codes.
-- Assumes nothing.
use Rattle.unpack.specs.RunByRun.{Single}
use Rattle.unpack.proofs.each.are_single.Given as goal

abbrev pub invariant-loop-k : goal.invariant-loop-k
invariant-loop-k l = Single l.runs l.codes l.k
