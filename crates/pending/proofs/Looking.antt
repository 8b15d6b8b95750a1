-- The first place that bears a number: what is found bears it, nothing before it does, and where nothing is found none does.
-- Assumes nothing.
use Rattle.std.proofs.Common.{◌≡◌, ℕ, zero, suc, ◌+◌, ◌<◌, ◌≤◌, Bool, true, false, eqb, List, sym, refl, ◌∙◌, subst, arith, eqb-true}
use Rattle.std.specs.Prelude.{Option, Some, None}
use borrow.Author.Tests.{eqb-false}
use Rattle.wire.proofs.Cond.{yes-if, no-if, yes-eq, no_eq}
use Rattle.pending.specs.Places.{number_at, bearing, first_bearing, place_of}

pub same_place : {j k : ℕ} → Some j ≡ Some k → j ≡ k
same_place e = cc

pub not_nowhere : {j : ℕ} → Some j ≡ None → ⊥
not_nowhere e =
    let z : ◌≡◌ {A = ℕ} 0 1 = cc in
    omega arith

-- j is the first of the m places from k on that bears n
pub record IsFirst (l : List ℕ) (n m k j : ℕ) : Type 0 where
  pub behind : k ≤ j
  pub below : j < k + m
  pub named : number_at l j ≡ n
  pub fresh : (i : ℕ) → k ≤ i → i < j → number_at l i ≡ n → ⊥

module _ (l : List ℕ) (n : ℕ) where
  step : (m k j : ℕ) → (bearing l n m (k + 1) ≡ Some j → IsFirst l n m (k + 1) j) → bearing l n (suc m) k ≡ Some j → IsFirst l n (suc m) k j
  unfolding bearing
  step m k j rest e = go (eqb (number_at l k) n) refl
    where
      go : (b : Bool) → eqb (number_at l k) n ≡ b → IsFirst l n (suc m) k j
      go true t =
          let h : k ≡ j = same_place (sym (yes-if (Some k) (bearing l n m (k + 1)) t) ∙ e) in
          record {
            behind = omega arith;
            below = omega arith;
            named = subst (λ (i : ℕ). number_at l i ≡ n) h (eqb-true (number_at l k) n t);
            fresh = λ i a b. absurd (omega arith);
          }
      go false t =
          let r : IsFirst l n m (k + 1) j = rest (sym (no-if (Some k) (bearing l n m (k + 1)) t) ∙ e) in
          record {
            behind = omega (arith, r.behind);
            below = omega (arith, r.below);
            named = r.named;
            fresh = λ i a b. from i a b (eqb k i) refl r;
          }
        where
          from : (i : ℕ) → k ≤ i → i < j → (b : Bool) → eqb k i ≡ b → IsFirst l n m (k + 1) j → number_at l i ≡ n → ⊥
          from i a b true q r = λ w. eqb-false (number_at l k) n t (subst (λ (x : ℕ). number_at l x ≡ n) (sym (eqb-true k i q)) w)
          from i a b false q r =
              let d : k ≡ i → ⊥ = eqb-false k i q in
              r.fresh i (omega arith) b

  pub is-first : (m k j : ℕ) → bearing l n m k ≡ Some j → IsFirst l n m k j
  unfolding bearing
  is-first zero k j e = absurd (not_nowhere (sym e))
  is-first (suc m) k j e = step m k j (is-first m (k + 1) j) e

  none-step : (m k i : ℕ) → (bearing l n m (k + 1) ≡ None → k + 1 ≤ i → i < k + 1 + m → number_at l i ≡ n → ⊥)
      → bearing l n (suc m) k ≡ None → k ≤ i → i < k + suc m → number_at l i ≡ n → ⊥
  unfolding bearing
  none-step m k i rest e a b w = go (eqb (number_at l k) n) refl (eqb k i) refl
    where
      go : (t : Bool) → eqb (number_at l k) n ≡ t → (q : Bool) → eqb k i ≡ q → ⊥
      go true t q s = not_nowhere (sym (yes-if (Some k) (bearing l n m (k + 1)) t) ∙ e)
      go false t true s = eqb-false (number_at l k) n t (subst (λ (x : ℕ). number_at l x ≡ n) (sym (eqb-true k i s)) w)
      go false t false s =
          let d : k ≡ i → ⊥ = eqb-false k i s in
          rest (sym (no-if (Some k) (bearing l n m (k + 1)) t) ∙ e) (omega arith) (omega arith) w

  pub none-bears-it : (m k i : ℕ) → bearing l n m k ≡ None → k ≤ i → i < k + m → number_at l i ≡ n → ⊥
  none-bears-it zero k i e a b w = absurd (omega arith)
  none-bears-it (suc m) k i e a b w = none-step m k i (λ f c d. none-bears-it m (k + 1) i f c d) e a b w

  -- what a look at all 64 places finds
  pub at-or-nowhere : (P : Option ℕ → Type 0) (s : Option ℕ) → ((k : ℕ) → s ≡ Some k → P (Some k)) → (s ≡ None → P None) → P s
  at-or-nowhere P (Some k) a b = a k refl
  at-or-nowhere P None a b = b refl

  module _ (h : n ≡ 0 → ⊥) where
    pub as_first : place_of l n ≡ first_bearing l n
    as_first = no_eq None (first_bearing l n) n 0 h

  pub number-not-zero : (k : ℕ) → place_of l n ≡ Some k → n ≡ 0 → ⊥
  number-not-zero k e z = not_nowhere (sym e ∙ yes-eq None (first_bearing l n) n 0 z)

  pub its-place : (k : ℕ) → place_of l n ≡ Some k → IsFirst l n 64 0 k
  its-place k e = is-first 64 0 k (sym (as_first (number-not-zero k e)) ∙ e)

  pub no_place : place_of l n ≡ None → (n ≡ 0 → ⊥) → (i : ℕ) → i < 64 → number_at l i ≡ n → ⊥
  no_place e h i b = none-bears-it 64 0 i (sym (as_first h) ∙ e) (omega arith) b
