-- Laws of `all_below`, for every loop that tests entry by entry and leaves at the first that fails.
-- Assumes nothing.
use Prim.Native.Nat.{ℕ, zero, suc, ◌+◌, ◌≤◌, ◌<◌}
use mathlib.Core.Path.{◌≡◌, refl, sym, ap, ◌∙◌}
use mathlib.Core.Bool.{Bool, true, false}
use mathlib.Core.Logic.{⊎_elim}
use native.Mathlib.Nat.{eq-or-lt_of_le}
use native.Mathlib.Numerals.{add-one}
use native.Mathlib.Omega.{arith}
use Rattle.wire.proofs.Cond.{and_left, and_right}
use Rattle.wire.specs.All.{all_below}

module _ (f : ℕ → Bool) where
  -- at the start there is nothing to test
  pub none_below : all_below f 0 ≡ true
  unfolding all_below
  none_below = refl

  -- one more entry passes
  pub next-below : (i : ℕ) (r : Bool) → all_below f i ≡ true → r ≡ f i → r ≡ true → all_below f (i + 1) ≡ true
  unfolding all_below
  next-below i r a e t = rw (add-one i, a, ← e, t) refl

  -- what holds below n holds at each
  pub at-below : (n i : ℕ) → all_below f n ≡ true → i < n → f i ≡ true
  unfolding all_below
  at-below zero i a h = absurd (omega arith)
  at-below (suc n) i a h =
      let l : i ≤ n = omega arith in
      ⊎_elim
      (λ (e : i ≡ n). ap f e ∙ and_right (all_below f n) (f n) a)
      (λ (g : i < n). at-below n i (and_left (all_below f n) (f n) a) g)
      (eq-or-lt_of_le l)

  -- what holds at each holds of all
  pub all-below : (n : ℕ) → ((i : ℕ) → i < n → f i ≡ true) → all_below f n ≡ true
  unfolding all_below
  all-below zero h = refl
  all-below (suc n) h = rw (all-below n (λ i l. h i (omega arith)), h n (omega arith)) refl

  -- an entry fails: so does the whole
  pub stop-below : (n i : ℕ) (r : Bool) → r ≡ f i → r ≡ false → i < n → false ≡ all_below f n
  stop-below n i r e t h = go (all_below f n) refl
    where
      go : (b : Bool) → all_below f n ≡ b → false ≡ all_below f n
      go true a = absurd (let z : ◌≡◌ {A = ℕ} 0 1 = cc (at-below n i a h) in omega arith)
      go false a = sym a

  -- at the end every entry has passed
  pub done_below : (n i : ℕ) → all_below f i ≡ true → i ≤ n → n ≤ i → true ≡ all_below f n
  done_below n i a h l = sym a ∙ ap (all_below f) (omega arith)
