-- Laws of a list that grows by one at its end, each made from those before it; and of sums and tests over what stands below n.
-- Assumes nothing.
use Prim.Native.Nat.{ℕ, zero, suc, ◌+◌, ◌*◌, ◌≤◌, ◌<◌}
use mathlib.Core.Path.{◌≡◌, refl, sym, ap, ap₂, ◌∙◌}
use mathlib.Core.Bool.{Bool, ◌&&◌}
use mathlib.Core.Logic.{⊎_elim}
use mathlib.Core.List.{List, [], ◌∷◌, ◌++◌}
use native.Mathlib.Nat.{eq-or-lt_of_le, zero-mul, suc-mul}
use native.Mathlib.Numerals.{add-one}
use native.Mathlib.Omega.{arith}
use lib.ListN.{length, get_or, length-append, get_or-eq_default, get_or-append}
use lib.Seq.{get_or_at}
use Rattle.wire.specs.All.{all_below}
use Rattle.plan.specs.Leaves.{sum_below}

module _ {A : Type 0} (made : ℕ → List A) (v : ℕ → A) (none : made 0 ≡ []) (more : (n : ℕ) → made (suc n) ≡ made n ++ (v n ∷ [])) where
  pub length-made : (n : ℕ) → length (made n) ≡ n
  length-made zero = ap (λ (l : List A). length l) none
  length-made (suc n) =
      ap (λ (l : List A). length l) (more n) ∙ length-append (made n) (v n ∷ []) ∙ ap (λ (k : ℕ). k + 1) (length-made n) ∙ add-one n

  pub made-known : (d : A) (n c : ℕ) → c < n → get_or (made n) c d ≡ v c
  made-known d zero c h = absurd (omega arith)
  made-known d (suc n) c h =
      let l : c ≤ n = omega arith in
      ap (λ (l : List A). get_or l c d) (more n)
      ∙ ⊎_elim
      (λ (e : c ≡ n). ap (λ (k : ℕ). get_or (made n ++ (v n ∷ [])) k d) e ∙ get_or_at (made n) (v n) [] d n (length-made n) ∙ ap v (sym e))
      (λ (g : c < n). get_or-append (made n) (v n ∷ []) d c (omega (arith, length-made n)) ∙ made-known d n c g)
      (eq-or-lt_of_le l)

  pub made-unknown : (d : A) (n c : ℕ) → n ≤ c → get_or (made n) c d ≡ d
  made-unknown d n c h = get_or-eq_default (made n) d (omega (arith, length-made n))

-- sums
pub sum_equal : (n : ℕ) (f g : ℕ → ℕ) → ((k : ℕ) → k < n → f k ≡ g k) → sum_below f n ≡ sum_below g n
unfolding sum_below
sum_equal zero f g h = refl
sum_equal (suc n) f g h = ap₂ (λ (a b : ℕ). a + b) (sum_equal n f g (λ k l. h k (omega arith))) (h n (omega arith))

pub sum_times : (n a : ℕ) → sum_below (λ k. a) n ≡ n * a
unfolding sum_below
sum_times zero a = sym (zero-mul a)
sum_times (suc n) a = ap (λ (m : ℕ). m + a) (sum_times n a) ∙ sym (suc-mul n a)

pub part_most : (n : ℕ) (f : ℕ → ℕ) (k : ℕ) → k < n → f k ≤ sum_below f n
unfolding sum_below
part_most zero f k h = absurd (omega arith)
part_most (suc n) f k h =
    let l : k ≤ n = omega arith in
    ⊎_elim
    (λ (e : k ≡ n). let g : f k ≡ f n = ap f e in omega arith)
    (λ (g : k < n). omega (arith, part_most n f k g))
    (eq-or-lt_of_le l)

-- tests
pub all_equal : (n : ℕ) (f g : ℕ → Bool) → ((k : ℕ) → k < n → f k ≡ g k) → all_below f n ≡ all_below g n
unfolding all_below
all_equal zero f g h = refl
all_equal (suc n) f g h = ap₂ (λ (a b : Bool). a && b) (all_equal n f g (λ k l. h k (omega arith))) (h n (omega arith))
