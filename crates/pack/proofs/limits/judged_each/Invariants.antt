-- `pack::limits::judged_each` meets its contract. The loop's invariant: where what was put together is not above the last of the
-- range, the words so far are there and taken.
-- Assumes nothing.
use Rattle.pack.proofs.Measures.{Judged}
use Rattle.pack.proofs.limits.judged_each.Given as goal

abbrev pub invariant-loop-k : goal.invariant-loop-k
invariant-loop-k l = Judged l.words l.code l.from l.all l.k
