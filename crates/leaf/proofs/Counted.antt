-- Entries of which those that fail are counted, and none of which is left at: none is counted where all pass.
-- Assumes nothing.
use Rattle.std.proofs.Common.{◌≡◌, ℕ, ◌+◌, ◌≤◌, Bool, true, false, cond, ◌&&◌, eqb, refl, ap, ◌∙◌, add-zero, add-one, arith, ne_eqb}
use Rattle.wire.specs.All.{all_below}

module _ (f : ℕ → Bool) where
  pub counted_none : eqb 0 0 ≡ all_below f 0
  unfolding all_below
  counted_none = refl

  pub counted-more : (k n r : ℕ) → eqb n 0 ≡ all_below f k → r ≡ cond (f k) 0 1 → eqb (n + r) 0 ≡ all_below f (k + 1)
  unfolding all_below
  counted-more k n r h e = go (f k) refl
    where
      none : (b : Bool) → (b && false) ≡ false
      none true = refl
      none false = refl

      all : (b : Bool) → (b && true) ≡ b
      all true = refl
      all false = refl

      go : (b : Bool) → f k ≡ b → eqb (n + r) 0 ≡ all_below f (k + 1)
      go true g = rw (add-one k, g, all (all_below f k), e, g) (ap (λ (m : ℕ). eqb m 0) (add-zero n) ∙ h)
      go false g = rw (add-one k, g, none (all_below f k), e, g) (ne_eqb (n + 1) 0 (λ (z : n + 1 ≡ 0). omega arith))

  -- at the end every entry was looked at
  pub counted-all : (n k hits : ℕ) → eqb hits 0 ≡ all_below f k → k ≤ n → n ≤ k → eqb hits 0 ≡ all_below f n
  counted-all n k hits h a b = h ∙ ap (all_below f) (omega arith)
