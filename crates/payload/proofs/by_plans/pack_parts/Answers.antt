-- `payload::by_plans::pack_parts` meets its contract.
-- Assumes nothing.
use Rattle.payload.proofs.ByPlans.{not_within, no_type, the_type}
use Rattle.payload.proofs.by_plans.pack_parts.Goals as goal

pub returns-then-is_type : goal.returns-then-is_type
returns-then-is_type c =
    let t = the_type _ _ _ _ _ _ _ _ c.within.ensures c.if-within.true _ c.is_type.ensures _ _ c.if-is_type.true
    (c.pack_type.ensures.value, c.pack_type.ensures.out_after) in
    record { value = t.0; out_after = t.1 }

pub returns-else-is_type : goal.returns-else-is_type
returns-else-is_type c =
    let t = no_type _ _ _ _ _ _ _ _ c.within.ensures c.if-within.true _ c.is_type.ensures c.if-is_type.false in
    record { value = t.0; out_after = t.1 }

pub returns-else-within : goal.returns-else-within
returns-else-within c =
    let t = not_within _ _ _ _ _ _ _ _ c.within.ensures c.if-within.false in
    record { value = t.0; out_after = t.1 }
