-- `payload::unpack_in` meets its contract: it is the call by no plans.
-- Assumes nothing.
use Rattle.payload.proofs.ByPlans.{in-sections}
use Rattle.payload.proofs.unpack_in.Goals as goal

pub returns : goal.returns
returns c =
    let t = in-sections _ _ _ _ _ _ _ _ (c.unpack_parts.ensures.value, c.unpack_parts.ensures.words_after) in
    record { value = t.0; words_after = t.1 }
