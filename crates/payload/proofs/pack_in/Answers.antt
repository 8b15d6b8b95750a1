-- `payload::pack_in` meets its contract: it is the call by no plans.
-- Assumes nothing.
use Rattle.payload.proofs.ByPlans.{in-sections}
use Rattle.payload.proofs.pack_in.Goals as goal

pub returns : goal.returns
returns c =
    let t = in-sections _ _ _ _ _ _ _ _ (c.pack_parts.ensures.value, c.pack_parts.ensures.out_after) in
    record { value = t.0; out_after = t.1 }
