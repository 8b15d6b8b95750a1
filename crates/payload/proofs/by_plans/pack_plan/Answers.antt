-- `payload::by_plans::pack_plan` meets its contract: what is stored goes by the answer.
-- Assumes nothing.
use Rattle.pack.specs.Writing.{writer}
use Rattle.payload.proofs.Calls.{tree_answered}
use Rattle.payload.proofs.by_plans.pack_plan.Goals as goal

pub returns : goal.returns
unfolding writer
returns c =
    let t = tree_answered _ _ _ _ _ _ _ c.write_plan-walked.ensures.value c.write_plan-walked.ensures.out_after c.written_to.ensures in
    record { value = t.0; out_after = t.1 }
