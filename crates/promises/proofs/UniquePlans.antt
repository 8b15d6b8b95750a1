-- Two outcomes that the promise of a function of request 13 allows are equal: each contract is an equation with a definition.
-- Assumes nothing.
use mathlib.Core.Path.{◌≡◌, sym, ap, ◌∙◌}
use Prim.Native.Nat.{ℕ}
use mathlib.Core.List.{List}
use Rattle.payload.specs.declared.Answer.{Answer}
use Rattle.payload.specs.Calls.{left_over_by}
use Rattle.promises.specs.UniquePlans.{RunsUnique, LaidUnique, ByUnique, UniquePlans}

runs : RunsUnique
runs =
    record {
      plan-of = λ k a z z' e e' p q. p ∙ sym q;
      is-planned = λ k a z z' e e' p q. p ∙ sym q;
      code_in = λ k a z z' e e' p q. p ∙ sym q;
      many-in = λ k a z z' e e' p q. p ∙ sym q;
      values-in = λ k a z z' e e' p q. p ∙ sym q;
      place-in = λ k a z z' e e' p q. p ∙ sym q;
    }

laid : LaidUnique
laid =
    record {
      length-in = λ k a z z' e e' p q. p ∙ sym q;
      lay = λ k a z z' e e' p q. p.0 ∙ sym q.0;
      lay_plans = λ k a z z' e e' p q. p.1 ∙ sym q.1;
    }

-- what is left by the answer, where the answers are the same
same_left : {r r' a : Answer} {y y' : List ℕ} (x z : List ℕ) → r ≡ a → r' ≡ a → y ≡ left_over_by r x z → y' ≡ left_over_by r' x z → y ≡ y'
same_left x z p q e f = e ∙ ap (λ (o : Answer). left_over_by o x z) (p ∙ sym q) ∙ sym f

by : ByUnique
by =
    record {
      read-plan = λ k a z z' e e' p q. p.0 ∙ sym q.0;
      read_plan_words = λ k a z z' e e' p q. p.1 ∙ sym q.1;
      write-plan = λ k a z z' e e' p q. p.0 ∙ sym q.0;
      write_plan_out = λ k a z z' e e' p q. p.1 ∙ sym q.1;
      unpack-parts = λ k a z z' e e' p q. p.0 ∙ sym q.0;
      unpack_parts_words = λ k a z z' e e' p q. same_left _ _ p.0 q.0 p.1 q.1;
      unpack-plan = λ k a z z' e e' p q. p.0 ∙ sym q.0;
      unpack_plan_words = λ k a z z' e e' p q. same_left _ _ p.0 q.0 p.1 q.1;
      pack-parts = λ k a z z' e e' p q. p.0 ∙ sym q.0;
      pack_parts_out = λ k a z z' e e' p q. same_left _ _ p.0 q.0 p.1 q.1;
      pack-plan = λ k a z z' e e' p q. p.0 ∙ sym q.0;
      pack_plan_out = λ k a z z' e e' p q. same_left _ _ p.0 q.0 p.1 q.1;
    }

pub unique_plans : UniquePlans
unique_plans = record { runs = runs; laid = laid; by = by }
