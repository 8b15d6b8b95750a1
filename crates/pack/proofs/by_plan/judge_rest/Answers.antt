use mathlib.Core.Path.{sym, ◌∙◌}
use Rattle.pack.proofs.PlanWalks.{leads-went, leads-stop, leads-end, run-keeps}
use Rattle.pack.proofs.by_plan.judge_rest.Goals as goal

pub loop-k-preserved : goal.loop-k-preserved
loop-k-preserved c = (
  leads-went _ _ _ _ _ _ _ c.loop-k-test.true c.loop-k.invariant.0 (sym c.in-Went.is ∙ c.judge_leaves.ensures),
  run-keeps _ _ _ _ _ _ _ c.loop-k.invariant.1 c.judge_leaves.ensures c.in-Went.is,
)

pub returns-in-Stopped : goal.returns-in-Stopped
returns-in-Stopped c =
    leads-stop _ _ _ _ _ _ _ _ c.loop-k-test.true c.loop-k.invariant.0 (sym c.in-Stopped.is ∙ c.judge_leaves.ensures)

pub returns : goal.returns
returns c =
    leads-end _ _ _ _ _ _ c.loop-k-test.false c.loop-k.invariant.0
