-- `pack::whole::judge_whole` meets its contract. The loop's invariant: what is left to walk over leads from here to the whole.
-- Assumes nothing.
use mathlib.Core.List.{[]}
use Rattle.walk.specs.Walk.{start, answer}
use Rattle.pack.specs.Writing.{Writing}
use Rattle.pack.proofs.PlanWalks.{overRuns, Leads}
use Rattle.pack.proofs.whole.judge_whole.Given as goal

abbrev pub invariant-loop-k : goal.invariant-loop-k
invariant-loop-k l =
    Leads l.words l.table l.runs (answer (overRuns l.words l.table l.runs start [])) l.k (record { from = l.from; to = l.to })
    × Writing l.words (record { from = l.from; to = l.to })
