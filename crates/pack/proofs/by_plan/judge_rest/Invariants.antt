-- `pack::by_plan::judge_rest` meets its contract. The loop's invariant: what is left to walk over leads from here to the whole.
-- Assumes nothing.
use mathlib.Core.List.{[]}
use lib.ListN.{drop}
use Rattle.walk.specs.Walk.{answer}
use Rattle.pack.specs.Writing.{Writing}
use Rattle.pack.proofs.PlanWalks.{overRuns, Leads}
use Rattle.pack.proofs.by_plan.judge_rest.Given as goal

abbrev pub invariant-loop-k : goal.invariant-loop-k
invariant-loop-k l = Leads l.words l.table l.runs (answer (overRuns l.words l.table (drop l.first l.runs) l.initial.at [])) l.k l.at × Writing l.words l.at
