-- `pack::by_plan::judge_leaves` meets its contract. The loop's invariant: so many leaves are walked over, and the walk is at this
-- place.
-- Assumes nothing.
use Rattle.pack.specs.Writing.{Writing}
use Rattle.pack.proofs.PlanLeaves.{So-far}
use Rattle.pack.proofs.by_plan.judge_leaves.Given as goal

abbrev pub invariant-loop : goal.invariant-loop
invariant-loop l =
    So-far l.words l.table l.run (record { from = l.initial.from; to = l.initial.to }) l.counter (record { from = l.from; to = l.to })
    × Writing l.words (record { from = l.from; to = l.to })
