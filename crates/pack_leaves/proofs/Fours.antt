-- A run of leaves of one base code, four in a turn: what is stored behind those that are stored already goes on from them.
-- Assumes nothing.
use Prim.Native.Nat.{ℕ, zero, suc, ◌+◌, ◌-◌, ◌*◌, ◌/◌, ◌≤◌, ◌<◌}
use mathlib.Core.Path.{◌≡◌, refl, sym, ap, ◌∙◌}
use mathlib.Core.List.{List}
use native.Mathlib.Nat.{add-mul, add-zero, add-suc}
use native.Mathlib.Omega.{arith}
use lib.ListN.{length}
use Rattle.table.specs.Leaf.{width}
use Rattle.walk.specs.declared.Place.{Place}
use Rattle.walk.proofs.Fours.{four-in, rest_in}
use Rattle.pack_leaves.specs.Stored.{stored}
use Rattle.pack_leaves.specs.StoredRuns.{behind_all, stored_all}
use Rattle.pack_leaves.proofs.StoredRuns.{length_all}

module _ (ws : List ℕ) (code : ℕ) (p : Place) (x : List ℕ) where
  same_place : (m n : ℕ) (y : List ℕ) → stored ws code (behind_all code (behind_all code p m) n) y ≡ stored ws code (behind_all code p (m + n)) y
  same_place m n y =
      let e : p.to + m * width code + n * width code ≡ p.to + (m + n) * width code = omega (arith, add-mul m n (width code)) in
      let g : p.from + m + n ≡ p.from + (m + n) = omega arith in
      rw (e, g) refl

  behind : (m n : ℕ) → stored_all ws code (behind_all code p m) n (stored_all ws code p m x) ≡ stored_all ws code p (m + n) x
  unfolding stored_all
  behind m zero = ap (λ (k : ℕ). stored_all ws code p k x) (sym (add-zero m))
  behind m (suc n) =
      ap (stored ws code (behind_all code (behind_all code p m) n)) (behind m n)
      ∙ same_place m n (stored_all ws code p (m + n) x)
      ∙ ap (λ (k : ℕ). stored_all ws code p k x) (sym (add-suc m n))

  goes_on : (m n w : ℕ) (y z : List ℕ) → w ≡ width code → y ≡ stored_all ws code p m x → z
      ≡ stored_all ws code (record { from = p.from + m; to = p.to + m * w }) n y → z ≡ stored_all ws code p (m + n) x
  goes_on m n w y z is g e = e ∙ rw (is, g) (behind m n)

  pub none_yet : x ≡ stored_all ws code p (4 * 0) x
  unfolding stored_all
  none_yet = refl

  -- what is so far as long as it was
  module _ (n w : ℕ) (is : w ≡ width code) (room : p.to + n * width code ≤ length x) (k : ℕ) (y : List ℕ) (g : y ≡ stored_all ws code p (4 * k) x) where
    so-long : length y ≡ length x
    so-long = ap length g ∙ length_all ws code p x (4 * k)

    pub four-room : k < n / 4 → p.to + 4 * k * w + 4 * width code ≤ length y
    four-room less = rw so-long (four-in (length x) p.to n w code is room k less)

    pub four-more : (z : List ℕ) → z ≡ stored_all ws code (record { from = p.from + 4 * k; to = p.to + 4 * k * w }) 4 y → z
        ≡ stored_all ws code p (4 * (k + 1)) x
    four-more z e =
        let h : 4 * k + 4 ≡ 4 * (k + 1) = omega arith in
        goes_on (4 * k) 4 w y z is g e ∙ ap (λ (m : ℕ). stored_all ws code p m x) h

    pub rest-room : p.to + 4 * (n / 4) * w + (n - 4 * (n / 4)) * width code ≤ length y
    rest-room = rw so-long (rest_in (length x) p.to n w code is room)

    pub rest_more : (z : List ℕ) → k ≤ n / 4 → n / 4 ≤ k → z
        ≡ stored_all ws code (record { from = p.from + 4 * (n / 4); to = p.to + 4 * (n / 4) * w }) (n - 4 * (n / 4)) y → z ≡ stored_all ws code p n x
    rest_more z i j e =
        let h : 4 * k ≡ 4 * (n / 4) = omega arith in
        let t : 4 * (n / 4) + (n - 4 * (n / 4)) ≡ n = omega arith in
        goes_on (4 * (n / 4)) (n - 4 * (n / 4)) w y z is (g ∙ ap (λ (m : ℕ). stored_all ws code p m x) h) e
        ∙ ap (λ (m : ℕ). stored_all ws code p m x) t
