-- Leaves of one base code, four in a turn: what is stored behind those that are stored already goes on from them.
-- Assumes nothing.
use Prim.Native.Nat.{ℕ, zero, suc, ◌+◌, ◌-◌, ◌*◌, ◌/◌, ◌≤◌}
use mathlib.Core.Path.{◌≡◌, refl, sym, ap, ◌∙◌}
use mathlib.Core.List.{List}
use native.Mathlib.Nat.{add-mul, add-zero, add-suc}
use native.Mathlib.Omega.{arith}
use Rattle.table.specs.Leaf.{width}
use Rattle.walk.specs.declared.Place.{Place}
use Rattle.unpack_leaves.specs.Leaves.{stored}
use Rattle.unpack_leaves.specs.OneCode.{along, filled}

module _ (b : List ℕ) (code : ℕ) (p : Place) (x : List ℕ) where
  same_place : (m n : ℕ) (y : List ℕ) → stored b code (along code (along code p m) n) y ≡ stored b code (along code p (m + n)) y
  same_place m n y =
      let e : p.from + m * width code + n * width code ≡ p.from + (m + n) * width code = omega (arith, add-mul m n (width code)) in
      let g : p.to + m + n ≡ p.to + (m + n) = omega arith in
      rw (e, g) refl

  behind : (m n : ℕ) → filled b code (along code p m) n (filled b code p m x) ≡ filled b code p (m + n) x
  unfolding filled
  behind m zero = ap (λ (k : ℕ). filled b code p k x) (sym (add-zero m))
  behind m (suc n) =
      ap (stored b code (along code (along code p m) n)) (behind m n)
      ∙ same_place m n (filled b code p (m + n) x)
      ∙ ap (λ (k : ℕ). filled b code p k x) (sym (add-suc m n))

  goes_on : (m n w : ℕ) (y z : List ℕ) → w ≡ width code → y ≡ filled b code p m x → z
      ≡ filled b code (record { from = p.from + m * w; to = p.to + m }) n y → z ≡ filled b code p (m + n) x
  goes_on m n w y z is g e = e ∙ rw (is, g) (behind m n)

  pub none_yet : x ≡ filled b code p (4 * 0) x
  unfolding filled
  none_yet = refl

  pub four-more : (k w : ℕ) (y z : List ℕ) → w ≡ width code → y ≡ filled b code p (4 * k) x → z
      ≡ filled b code (record { from = p.from + 4 * k * w; to = p.to + 4 * k }) 4 y → z ≡ filled b code p (4 * (k + 1)) x
  four-more k w y z is g e =
      let h : 4 * k + 4 ≡ 4 * (k + 1) = omega arith in
      goes_on (4 * k) 4 w y z is g e ∙ ap (λ (m : ℕ). filled b code p m x) h

  pub rest_more : (n k w : ℕ) (y z : List ℕ) → w ≡ width code → k ≤ n / 4 → n / 4 ≤ k → y ≡ filled b code p (4 * k) x → z
      ≡ filled b code (record { from = p.from + 4 * (n / 4) * w; to = p.to + 4 * (n / 4) }) (n - 4 * (n / 4)) y → z ≡ filled b code p n x
  rest_more n k w y z is i j g e =
      let h : 4 * k ≡ 4 * (n / 4) = omega arith in
      let t : 4 * (n / 4) + (n - 4 * (n / 4)) ≡ n = omega arith in
      goes_on (4 * (n / 4)) (n - 4 * (n / 4)) w y z is (g ∙ ap (λ (m : ℕ). filled b code p m x) h) e
      ∙ ap (λ (m : ℕ). filled b code p m x) t
