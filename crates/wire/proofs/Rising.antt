-- Laws of entries that rise, over what is compared: two that are apart in place are apart in rank.
-- Assumes nothing.
use Prim.Native.Nat.{ℕ, zero, suc, ◌+◌, ◌-◌, ◌≤◌, ◌<◌}
use mathlib.Core.Path.{◌≡◌, refl, sym, ap, subst, ◌∙◌}
use mathlib.Core.Bool.{Bool, true, false, ◌||◌}
use mathlib.Core.Logic.{⊎_elim}
use native.Mathlib.Nat.{eq-or-lt_of_le, lt_trans, le_of_eq, le_of_lt}
use native.Mathlib.Omega.{arith}
use borrow.Author.Tests.{ne_eqb, eqb-false, ltb-true}
use lib.Dec.{ltb, eqb}
use Rattle.wire.specs.All.{all_below, above}
use Rattle.wire.proofs.AllBelow.{at-below}

-- the test of one entry, with what it is compared with carried along
abbrev pub Carried : (ℕ → ℕ) → ℕ → ℕ → Type 0
Carried r k last = (k ≡ 0 → ⊥) → last ≡ r (k - 1)

pub carried_none : (r : ℕ → ℕ) (last : ℕ) → Carried r 0 last
carried_none r last d = absurd (d refl)

pub carried_next : (r : ℕ → ℕ) (k next : ℕ) → next ≡ r k → Carried r (k + 1) next
carried_next r k next h d = h ∙ ap r (omega arith)

pub carried_test : (r : ℕ → ℕ) (k last next : ℕ) → Carried r k last → next ≡ r k → (eqb k 0 || ltb last next) ≡ above r k
unfolding above
carried_test r k last next c h = go (eqb k 0) refl
  where
    go : (b : Bool) → eqb k 0 ≡ b → (eqb k 0 || ltb last next) ≡ above r k
    go true e = rw e refl
    go false e = rw (e, c (eqb-false k 0 e), h) refl

-- an entry that is not the first is above the one before it
step : (r : ℕ → ℕ) (k : ℕ) → above r (suc k) ≡ true → r k < r (suc k)
unfolding above
step r k h =
    let a : eqb (suc k) 0 ≡ false = ne_eqb (suc k) 0 (omega arith) in
    let m : suc k - 1 ≡ k = omega arith in
    ltb-true (r k) (r (suc k)) (sym (rw (a, m) refl) ∙ h)

module _ (r : ℕ → ℕ) (n : ℕ) (all : all_below (above r) n ≡ true) where
  pub rising-apart : (j k : ℕ) → j < k → k < n → r j < r k
  rising-apart j zero l h = absurd (omega arith)
  rising-apart j (suc k) l h =
      let m : j ≤ k = omega arith in
      let s : r k < r (suc k) = step r k (at-below (above r) n (suc k) all h) in
      ⊎_elim
      (λ (e : j ≡ k). subst (λ (x : ℕ). r x < r (suc k)) (sym e) s)
      (λ (g : j < k). lt_trans (rising-apart j k g (omega arith)) s)
      (eq-or-lt_of_le m)

  pub rising-up-to : (j k : ℕ) → j ≤ k → k < n → r j ≤ r k
  rising-up-to j k l h = ⊎_elim (λ (e : j ≡ k). le_of_eq (ap r e)) (λ (g : j < k). le_of_lt (rising-apart j k g h)) (eq-or-lt_of_le l)
