-- Plans as the calls have them, over their contracts.
-- Assumes nothing.
use Prim.Native.Nat.{ℕ, zero, suc}
use native.Mathlib.Omega.{arith}
use Rattle.refusal.specs.Refusal.{verdict_of}
use Rattle.std.specs.Prelude.{Ok}
use mathlib.Core.Path.{◌≡◌, refl, sym, subst, ◌∙◌}
use mathlib.Core.Bool.{true}
use mathlib.Core.List.{List}
use lib.ListN.{length}
use Rattle.payload.proofs.ByPlans.{by-plan}
use Rattle.unpack.specs.Reading.{reader}
use Rattle.pack.specs.Writing.{writer}
use Rattle.promises.specs.Plans.{AsTheWalk}
use Rattle.promises.specs.PlanCalls.{PlanCalls}
use Rattle.promises.proofs.Plans.{the_plans}

-- a verdict that refuses nothing is that of no number
none_refused : (n : ℕ) → verdict_of n ≡ Ok tt → n ≡ 0
none_refused zero e = refl
none_refused (suc n) e = let z : ◌≡◌ {A = ℕ} 0 1 = cc in absurd (omega arith)

pub plan_calls : PlanCalls
plan_calls =
    record {
      lays = λ i k a n e p z.
          subst (λ (ps : List ℕ). AsTheWalk ps a.0.now a.1.0 i) (sym p.1)
          (the_plans.as_the_walk a.0.now a.1.0 a.1.1.0.now (none_refused _ (sym p.0 ∙ z)) i);
      unpacks = λ s k a r e p h.
          let b = a.1.1.1.0.now in
          by-plan (reader b) (length b) a.1.0.now a.0.now s a.1.1.0 a.1.1.1.1.0.now true (sym h) r e.1.1.1.1.0.now
          refl p;
      packs = λ s k a r e p h.
          let ws = a.1.1.1.0.now in
          by-plan (writer ws) (length ws) a.1.0.now a.0.now s a.1.1.0 a.1.1.1.1.0.now true (sym h) r e.1.1.1.1.0.now
          refl p;
    }
