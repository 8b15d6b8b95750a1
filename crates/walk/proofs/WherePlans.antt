-- Where a type's plan stands in lent words.
-- Assumes nothing.
use Prim.Native.Nat.{ℕ, ◌+◌, ◌≤◌, ◌<◌}
use mathlib.Core.Path.{◌≡◌, refl, sym, ap, ◌∙◌}
use mathlib.Core.Bool.{Bool, true, false, cond}
use mathlib.Core.List.{List}
use borrow.Author.Tests.{leb-true}
use lib.Dec.{ltb, leb}
use lib.ListN.{length, get_or, get_or-eq_default}
use native.Mathlib.Omega.{arith}
use Rattle.wire.proofs.Cond.{yes-if, no-if, yes_lt, no_lt}
use Rattle.walk.specs.declared.plans.Plan.{Plan}
use Rattle.walk.specs.Planned.{indexed, runs_in, first_in, lying, plan_of, is_planned}

module _ (ps : List ℕ) (i : ℕ) where
  pub none-indexed : length ps ≤ i + 1 → 0 ≡ indexed ps i
  unfolding indexed
  none-indexed h = go (ltb i (get_or ps 0 0))
    where
      go : (b : Bool) → 0 ≡ cond b (get_or ps (i + 1) 0) 0
      go true = sym (get_or-eq_default ps 0 h)
      go false = refl

  pub is-indexed : i < get_or ps 0 0 → get_or ps (i + 1) 0 ≡ indexed ps i
  unfolding indexed
  is-indexed h = sym (yes_lt (get_or ps (i + 1) 0) 0 i (get_or ps 0 0) h)

  pub not-indexed : get_or ps 0 0 ≤ i → 0 ≡ indexed ps i
  unfolding indexed
  not-indexed h = sym (no_lt (get_or ps (i + 1) 0) 0 i (get_or ps 0 0) h)

  pub plan-is : (w : ℕ) (r : Plan) → w ≡ indexed ps i → r ≡ lying (length ps) (first_in w) (runs_in w) → r ≡ plan_of ps i
  unfolding plan_of
  plan-is w r h e = e ∙ ap (λ (k : ℕ). lying (length ps) (first_in k) (runs_in k)) h

  pub planned-is : (r : Plan) → r ≡ plan_of ps i → ltb 0 r.runs ≡ is_planned ps i
  unfolding is_planned
  planned-is r h = ap (λ (p : Plan). ltb 0 p.runs) h

module _ (n first runs : ℕ) (b : Bool) (is : b ≡ leb (first + runs) n) where
  pub lies : b ≡ true → ◌≡◌ {A = Plan} (record { first = first; runs = runs }) (lying n first runs)
  unfolding lying
  lies h = sym (yes-if (record { first = first; runs = runs }) (record { first = 0; runs = 0 }) (sym is ∙ h))

  pub lies-not : b ≡ false → ◌≡◌ {A = Plan} (record { first = 0; runs = 0 }) (lying n first runs)
  unfolding lying
  lies-not h = sym (no-if (record { first = first; runs = runs }) (record { first = 0; runs = 0 }) (sym is ∙ h))

-- a plan lies in the words
lying_in : (n first runs : ℕ) → (lying n first runs).first + (lying n first runs).runs ≤ n
unfolding lying
lying_in n first runs = go (leb (first + runs) n) refl
  where
    go : (b : Bool) → leb (first + runs) n ≡ b → (lying n first runs).first + (lying n first runs).runs ≤ n
    go true h = rw h (leb-true (first + runs) n h)
    go false h = rw h (omega arith)

pub plan_in : (ps : List ℕ) (i : ℕ) (r : Plan) → r ≡ plan_of ps i → r.first + r.runs ≤ length ps
unfolding plan_of
plan_in ps i r h = rw h (lying_in (length ps) (first_in (indexed ps i)) (runs_in (indexed ps i)))
