-- How many numbers below m pass a test, where two tests differ in one of them.
-- Assumes nothing.
use Rattle.std.proofs.Common.{◌≡◌, ℕ, zero, suc, ◌+◌, ◌<◌, ◌≤◌, Bool, true, false, cond, eqb, sym, refl, ap, ◌∙◌, ap₂, true≢false, arith, eqb-true}
use borrow.Author.Tests.{eqb-false}
use Rattle.pending.specs.Counted.{how_many}

abbrev pub one : Bool → ℕ
one b = cond b 1 0

-- a test that passes no more
pub one_le : (a b : Bool) → (b ≡ true → a ≡ true) → one b ≤ one a
one_le true true h = omega arith
one_le true false h = omega arith
one_le false true h = absurd (true≢false (sym (h refl)))
one_le false false h = omega arith

module _ (f g : ℕ → Bool) where
  pub count-le : (m : ℕ) → ((k : ℕ) → k < m → g k ≡ true → f k ≡ true) → how_many g m ≤ how_many f m
  unfolding how_many
  count-le zero h = omega arith
  count-le (suc m) h =
      let r : how_many g m ≤ how_many f m = count-le m (λ k b. h k (omega arith)) in
      let o : one (g m) ≤ one (f m) = one_le (f m) (g m) (h m (omega arith)) in
      omega arith

  -- and fails for one that passed
  count-step : (m j : ℕ) → ((k : ℕ) → k < suc m → g k ≡ true → f k ≡ true) → j < suc m → f j ≡ true → g j ≡ false
      → (j < m → how_many g m < how_many f m) → how_many g (suc m) < how_many f (suc m)
  unfolding how_many
  count-step m j h b p q rest = go (eqb j m) refl
    where
      go : (t : Bool) → eqb j m ≡ t → how_many g m + one (g m) < how_many f m + one (f m)
      go true t =
          let e : j ≡ m = eqb-true j m t in
          let a : one (g m) ≡ 0 = ap one (sym (ap g e) ∙ q) in
          let c : one (f m) ≡ 1 = ap one (sym (ap f e) ∙ p) in
          let r : how_many g m ≤ how_many f m = count-le m (λ k d. h k (omega arith)) in
          omega arith
      go false t =
          let d : j ≡ m → ⊥ = eqb-false j m t in
          let r : how_many g m < how_many f m = rest (omega arith) in
          let o : one (g m) ≤ one (f m) = one_le (f m) (g m) (h m (omega arith)) in
          omega arith

  pub count-lt : (m j : ℕ) → ((k : ℕ) → k < m → g k ≡ true → f k ≡ true) → j < m → f j ≡ true → g j ≡ false → how_many g m < how_many f m
  count-lt zero j h b p q = absurd (omega arith)
  count-lt (suc m) j h b p q = count-step m j h b p q (λ c. count-lt m j (λ k d. h k (omega arith)) c p q)

  -- two tests that agree
  pub count_same : (m : ℕ) → ((k : ℕ) → k < m → g k ≡ f k) → how_many g m ≡ how_many f m
  unfolding how_many
  count_same zero h = refl
  count_same (suc m) h = ap₂ (λ (a b : ℕ). a + b) (count_same m (λ k b. h k (omega arith))) (ap one (h m (omega arith)))

  -- or agree in all but one, which passes now
  more-step : (m j : ℕ) → ((k : ℕ) → k < suc m → (k ≡ j → ⊥) → g k ≡ f k) → j < suc m → f j ≡ false → g j ≡ true
      → (j < m → how_many g m ≡ how_many f m + 1) → how_many g (suc m) ≡ how_many f (suc m) + 1
  unfolding how_many
  more-step m j h b p q rest = go (eqb j m) refl
    where
      go : (t : Bool) → eqb j m ≡ t → how_many g m + one (g m) ≡ how_many f m + one (f m) + 1
      go true t =
          let e : j ≡ m = eqb-true j m t in
          let a : one (g m) ≡ 1 = ap one (sym (ap g e) ∙ q) in
          let c : one (f m) ≡ 0 = ap one (sym (ap f e) ∙ p) in
          let r : how_many g m ≡ how_many f m = count_same m (λ k d. h k (omega arith) (λ (x : k ≡ j). omega arith)) in
          omega arith
      go false t =
          let d : j ≡ m → ⊥ = eqb-false j m t in
          let r : how_many g m ≡ how_many f m + 1 = rest (omega arith) in
          let o : one (g m) ≡ one (f m) = ap one (h m (omega arith) (λ x. d (sym x))) in
          omega arith

  pub one_more : (m j : ℕ) → ((k : ℕ) → k < m → (k ≡ j → ⊥) → g k ≡ f k) → j < m → f j ≡ false → g j ≡ true → how_many g m ≡ how_many f m + 1
  one_more zero j h b p q = absurd (omega arith)
  one_more (suc m) j h b p q = more-step m j h b p q (λ c. one_more m j (λ k d. h k (omega arith)) c p q)

-- no more than there are, all where all pass, and fewer where one does not
pub count_most : (f : ℕ → Bool) (m : ℕ) → how_many f m ≤ m
unfolding how_many
count_most f zero = omega arith
count_most f (suc m) =
    let r : how_many f m ≤ m = count_most f m in
    let o : one (f m) ≤ 1 = one_le true (f m) (λ e. refl) in
    omega arith

pub count_all : (f : ℕ → Bool) (m : ℕ) → ((k : ℕ) → k < m → f k ≡ true) → how_many f m ≡ m
unfolding how_many
count_all f zero h = refl
count_all f (suc m) h =
    let r : how_many f m ≡ m = count_all f m (λ k b. h k (omega arith)) in
    let o : one (f m) ≡ 1 = ap one (h m (omega arith)) in
    omega arith

pub not_all : (f : ℕ → Bool) (m j : ℕ) → j < m → f j ≡ false → how_many f m < m
not_all f m j b p =
    let a : how_many (λ k. true) m ≡ m = count_all (λ k. true) m (λ k d. refl) in
    let l : how_many f m < how_many (λ k. true) m = count-lt (λ k. true) f m j (λ k d e. refl) b refl p in
    omega arith
