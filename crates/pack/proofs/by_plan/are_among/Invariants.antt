-- `pack::by_plan::are_among` meets its contract. The loop's invariant: the words so far are among the values.
-- Assumes nothing.
use Rattle.pack.specs.ByPlan.{AllAmong}
use Rattle.pack.proofs.by_plan.are_among.Given as goal

abbrev pub invariant-loop-k : goal.invariant-loop-k
invariant-loop-k l = AllAmong l.words l.table l.at l.count l.from l.k
