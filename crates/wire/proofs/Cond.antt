-- `cond` by what its test says, a definition that goes by tests, at the case that the code has met; and two tests taken
-- together, by each.
-- Assumes nothing.
use Prim.Native.Nat.{ℕ, suc, ◌≤◌, ◌<◌}
use mathlib.Core.Path.{◌≡◌, refl, sym, ap, ◌∙◌}
use native.Mathlib.Nat.{suc-ne-zero}
use mathlib.Core.Bool.{Bool, true, false, not, cond, ◌&&◌, ◌||◌, true≢false}
use mathlib.Core.Logic.{◌⊎◌, inl, inr}
use borrow.Author.Tests.{lt-ltb, le-ltb, le-leb, lt-leb, eq-eqb, ne_eqb}
use lib.Dec.{eqb, leb, ltb}

module _ {A : Type 0} (n m : A) where
  pub yes-if : {b : Bool} → b ≡ true → cond b n m ≡ n
  yes-if e = rw e

  pub no-if : {b : Bool} → b ≡ false → cond b n m ≡ m
  no-if e = rw e

  pub yes_lt : (a b : ℕ) → a < b → cond (ltb a b) n m ≡ n
  yes_lt a b h = yes-if (lt-ltb a b h)

  pub no_lt : (a b : ℕ) → b ≤ a → cond (ltb a b) n m ≡ m
  no_lt a b h = no-if (le-ltb a b h)

  pub yes_le : (a b : ℕ) → a ≤ b → cond (leb a b) n m ≡ n
  yes_le a b h = yes-if (le-leb a b h)

  pub no_le : (a b : ℕ) → b < a → cond (leb a b) n m ≡ m
  no_le a b h = no-if (lt-leb a b h)

  pub yes-ne : (a b : ℕ) → (a ≡ b → ⊥) → cond (not (eqb a b)) n m ≡ n
  yes-ne a b h = yes-if (ap not (ne_eqb a b h))

  pub no-ne : (a b : ℕ) → a ≡ b → cond (not (eqb a b)) n m ≡ m
  no-ne a b h = no-if (ap not (eq-eqb a b h))

  pub yes-eq : (a b : ℕ) → a ≡ b → cond (eqb a b) n m ≡ n
  yes-eq a b h = yes-if (eq-eqb a b h)

  pub no_eq : (a b : ℕ) → (a ≡ b → ⊥) → cond (eqb a b) n m ≡ m
  no_eq a b h = no-if (ne_eqb a b h)

-- where a refusal that is not 0 was not given, its test failed, and the rest is 0
pub passed : (b : Bool) (n m : ℕ) → cond b (suc n) m ≡ 0 → (b ≡ false) × (m ≡ 0)
passed true n m e = absurd (suc-ne-zero n e)
passed false n m e = (refl, e)

pub and_true : (a b : Bool) → a ≡ true → b ≡ true → (a && b) ≡ true
and_true a b p q = rw (p, q)

pub both : (a b : Bool) → (a && b) ≡ true → (a ≡ true) × (b ≡ true)
both true b e = (refl, e)
both false b e = absurd (true≢false (sym e))

pub and_left : (a b : Bool) → (a && b) ≡ true → a ≡ true
and_left a b e = (both a b e).0

pub and_right : (a b : Bool) → (a && b) ≡ true → b ≡ true
and_right a b e = (both a b e).1

pub either : (a b : Bool) → (a || b) ≡ true → (a ≡ true) ⊎ (b ≡ true)
either true b e = inl refl
either false b e = inr e

pub neither : (a b : Bool) → (a || b) ≡ false → (a ≡ false) × (b ≡ false)
neither false b e = (refl, e)
neither true b e = absurd (true≢false e)

pub clash : {b : Bool} → b ≡ false → b ≡ true → ⊥
clash e f = true≢false (sym f ∙ e)
