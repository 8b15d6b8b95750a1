-- Laws of the leaves by their base codes: what is so of each of the thirteen, and the arms of a `match` on a code.
-- Assumes nothing.
use Prim.Native.Nat.{ℕ, zero, suc, ◌+◌, ◌≤◌, ◌<◌}
use mathlib.Core.Path.{◌≡◌, refl, sym, ap, ◌∙◌}
use mathlib.Core.Bool.{Bool, true, false}
use native.Mathlib.Omega.{arith}
use borrow.Author.Tests.{ltb-true, ltb-false}
use lib.Dec.{ltb}
use lib.ListN.{get_or-eq_default}
use Rattle.table.specs.Leaf.{Leaf, none, codes, base}

pub no-base : (code : ℕ) → 13 ≤ code → base code ≡ none
unfolding base
no-base code h = get_or-eq_default codes none h

-- what is so of each base code is so of all of them, and of every number where it is so of the others too
abbrev pub Each : (ℕ → Type 0) → Type 0
Each P = P 0 × P 1 × P 2 × P 3 × P 4 × P 5 × P 6 × P 7 × P 8 × P 9 × P 10 × P 11 × P 12

pub each : (P : ℕ → Type 0) → Each P → (code : ℕ) → code < 13 → P code
each P h zero l = h.0
each P h (suc zero) l = h.1
each P h (suc (suc zero)) l = h.2
each P h (suc (suc (suc zero))) l = h.3
each P h (suc (suc (suc (suc zero)))) l = h.4
each P h (suc (suc (suc (suc (suc zero))))) l = h.5
each P h (suc (suc (suc (suc (suc (suc zero)))))) l = h.6
each P h (suc (suc (suc (suc (suc (suc (suc zero))))))) l = h.7
each P h (suc (suc (suc (suc (suc (suc (suc (suc zero)))))))) l = h.8
each P h (suc (suc (suc (suc (suc (suc (suc (suc (suc zero))))))))) l = h.9
each P h (suc (suc (suc (suc (suc (suc (suc (suc (suc (suc zero)))))))))) l = h.10
each P h (suc (suc (suc (suc (suc (suc (suc (suc (suc (suc (suc zero))))))))))) l = h.11
each P h (suc (suc (suc (suc (suc (suc (suc (suc (suc (suc (suc (suc zero)))))))))))) l = h.12
each P h (suc (suc (suc (suc (suc (suc (suc (suc (suc (suc (suc (suc (suc n))))))))))))) l = absurd (omega arith)

pub any : (P : ℕ → Type 0) → Each P → ((n : ℕ) → 13 ≤ n → P n) → (code : ℕ) → P code
any P h others code = go (ltb code 13) refl
  where
    go : (b : Bool) → ltb code 13 ≡ b → P code
    go true e = each P h code (ltb-true code 13 e)
    go false e = others code (ltb-false code 13 e)

-- what is said of a leaf, at the arm of code n
pub arm : {A : Type 0} (f : Leaf → A) (n x : ℕ) {r : A} → r ≡ f (base n) → x ≡ n → r ≡ f (base x)
arm f n x e h = e ∙ ap (λ (m : ℕ). f (base m)) (sym h)

above : (n x : ℕ) → n ≤ x → (x ≡ n → ⊥) → n + 1 ≤ x
above n x h d = omega arith

-- and at the arm of a number that is none of the thirteen
module _ (x : ℕ) (d0 : x ≡ 0 → ⊥) (d1 : x ≡ 1 → ⊥) (d2 : x ≡ 2 → ⊥) (d3 : x ≡ 3 → ⊥) (d4 : x ≡ 4 → ⊥) (d5 : x ≡ 5 → ⊥) (d6 : x ≡ 6 → ⊥)
    (d7 : x ≡ 7 → ⊥) (d8 : x ≡ 8 → ⊥) (d9 : x ≡ 9 → ⊥) (d10 : x ≡ 10 → ⊥) (d11 : x ≡ 11 → ⊥) (d12 : x ≡ 12 → ⊥) where
  pub none_of : base x ≡ none
  none_of =
      let h4 : 4 ≤ x = above 3 x (above 2 x (above 1 x (above 0 x (omega arith) d0) d1) d2) d3 in
      let h8 : 8 ≤ x = above 7 x (above 6 x (above 5 x (above 4 x h4 d4) d5) d6) d7 in
      no-base x (above 12 x (above 11 x (above 10 x (above 9 x (above 8 x h8 d8) d9) d10) d11) d12)

pub no_arm : {A : Type 0} (f : Leaf → A) (x : ℕ) {r : A} → r ≡ f none → (x ≡ 0 → ⊥) → (x ≡ 1 → ⊥) → (x ≡ 2 → ⊥) → (x ≡ 3 → ⊥) → (x ≡ 4 → ⊥)
    → (x ≡ 5 → ⊥) → (x ≡ 6 → ⊥) → (x ≡ 7 → ⊥) → (x ≡ 8 → ⊥) → (x ≡ 9 → ⊥) → (x ≡ 10 → ⊥) → (x ≡ 11 → ⊥) → (x ≡ 12 → ⊥) → r ≡ f (base x)
no_arm f x e d0 d1 d2 d3 d4 d5 d6 d7 d8 d9 d10 d11 d12 = e ∙ ap f (sym (none_of x d0 d1 d2 d3 d4 d5 d6 d7 d8 d9 d10 d11 d12))
