-- The bits of a word: one of them set or turned leaves the others, and the count of ones is the number of bits that are set.
-- Assumes nothing.
use Prim.Native.Nat.{ℕ, zero, suc, ◌+◌, ◌-◌, ◌*◌, ◌/◌, ◌%◌, ◌^◌, ◌<◌}
use mathlib.Core.Path.{◌≡◌, refl, sym, ap, ap₂, subst, ◌∙◌}
use mathlib.Core.Bool.{Bool, true, false, cond}
use mathlib.Core.Logic.{◌⊎◌, inl, inr, ⊎_elim}
use native.Mathlib.Nat.{mod-lt, mod-eq_of_lt, one-mul, div_self, div-one, div-eq_of_lt, mul-mod_left, pow-suc, add-zero, add_assoc, zero-add, zero-lt-suc}
use native.Mathlib.Numerals.{add-one}
use native.Mathlib.Omega.{arith}
use borrow.Author.Tests.{ltb-true, ltb-false}
use lib.Dec.{eqb, ltb}
use lib.Arith.{lt-one, lt_of_le-ne}
use lib.Pow.{pow_pos, pow-lt, pow-add, shl-shr, shr-shr, shr_lt}
use lib.Bits.{bit_or, bit_xor, or_shr, or_mod, xor_shr, xor_mod}
use lib.Count.{ones, ones_step}
use Rattle.states.specs.States.{count_below}

abbrev pub bit : ℕ → ℕ → ℕ
bit w j = w / 2 ^ j % 2

-- the bits of a power of two
pub bit_same : (b : ℕ) → bit (2 ^ b) b ≡ 1
bit_same b = ap (λ (n : ℕ). n % 2) (div_self (pow_pos b))

bit_below : (b j : ℕ) → j < b → bit (2 ^ b) j ≡ 0
bit_below b j h =
    let d : ℕ = b - suc j in
    let e : b ≡ suc d + j = omega arith in
    ap (λ (n : ℕ). 2 ^ n / 2 ^ j % 2) e ∙ ap (λ (n : ℕ). n / 2 ^ j % 2) (pow-add 2 (suc d) j) ∙ ap (λ (n : ℕ). n % 2) (shl-shr (2 ^ suc d) j)
    ∙ ap (λ (n : ℕ). n % 2) (pow-suc 2 d) ∙ mul-mod_left (2 ^ d) 2

bit_above : (b j : ℕ) → b < j → bit (2 ^ b) j ≡ 0
bit_above b j h = ap (λ (n : ℕ). n % 2) (div-eq_of_lt (pow-lt h))

pub bit_other : (b j : ℕ) → (j ≡ b → ⊥) → bit (2 ^ b) j ≡ 0
bit_other b j h = go (ltb j b) refl
  where
    go : (t : Bool) → ltb j b ≡ t → bit (2 ^ b) j ≡ 0
    go true e = bit_below b j (ltb-true j b e)
    go false e = bit_above b j (lt_of_le-ne (ltb-false j b e) (λ k. h (sym k)))

-- a bit is 0 or 1
pub bit-or : (w j : ℕ) → (bit w j ≡ 0) ⊎ (bit w j ≡ 1)
bit-or w j = two (bit w j) (mod-lt (w / 2 ^ j) (zero-lt-suc 1))
  where
    two : (n : ℕ) → n < 2 → (n ≡ 0) ⊎ (n ≡ 1)
    two zero h = inl refl
    two (suc zero) h = inr refl
    two (suc (suc n)) h = absurd (omega arith)

-- a shift by less than the width is exact
pub one_shifted : (k : ℕ) → 1 * 2 ^ (k % 64) % 2 ^ 64 ≡ 2 ^ (k % 64)
one_shifted k = ap (λ (n : ℕ). n % 2 ^ 64) (one-mul (2 ^ (k % 64))) ∙ mod-eq_of_lt (pow-lt (mod-lt k (zero-lt-suc 63)))

-- one bit set, or turned: the others stay
or_bit : (w m j : ℕ) → bit (bit_or w m) j ≡ bit_or (bit w j) (bit m j)
or_bit w m j = ap (λ (n : ℕ). n % 2) (or_shr w m j) ∙ or_mod (w / 2 ^ j) (m / 2 ^ j) 1

xor_bit : (w m j : ℕ) → bit (bit_xor w m) j ≡ bit_xor (bit w j) (bit m j)
xor_bit w m j = ap (λ (n : ℕ). n % 2) (xor_shr w m j) ∙ xor_mod (w / 2 ^ j) (m / 2 ^ j) 1

module _ (w b : ℕ) where
  pub set_there : bit (bit_or w (2 ^ b)) b ≡ 1
  set_there = or_bit w (2 ^ b) b ∙ ap (bit_or (bit w b)) (bit_same b)
      ∙ ⊎_elim (λ (e : bit w b ≡ 0). ap (λ (n : ℕ). bit_or n 1) e) (λ (e : bit w b ≡ 1). ap (λ (n : ℕ). bit_or n 1) e) (bit-or w b)

  pub turned-there : bit (bit_xor w (2 ^ b)) b ≡ 1 - bit w b
  turned-there =
      xor_bit w (2 ^ b) b ∙ ap (bit_xor (bit w b)) (bit_same b)
      ∙ ⊎_elim (λ (e : bit w b ≡ 0). ap (λ (n : ℕ). bit_xor n 1) e ∙ ap (λ (n : ℕ). 1 - n) (sym e))
      (λ (e : bit w b ≡ 1). ap (λ (n : ℕ). bit_xor n 1) e ∙ ap (λ (n : ℕ). 1 - n) (sym e)) (bit-or w b)

  module _ (j : ℕ) (h : j ≡ b → ⊥) where
    pub set-elsewhere : bit (bit_or w (2 ^ b)) j ≡ bit w j
    set-elsewhere =
        or_bit w (2 ^ b) j ∙ ap (bit_or (bit w j)) (bit_other b j h)
        ∙ ⊎_elim (λ (e : bit w j ≡ 0). ap (λ (n : ℕ). bit_or n 0) e ∙ sym e) (λ (e : bit w j ≡ 1). ap (λ (n : ℕ). bit_or n 0) e ∙ sym e) (bit-or w j)

    pub turned-elsewhere : bit (bit_xor w (2 ^ b)) j ≡ bit w j
    turned-elsewhere =
        xor_bit w (2 ^ b) j ∙ ap (bit_xor (bit w j)) (bit_other b j h)
        ∙ ⊎_elim (λ (e : bit w j ≡ 0). ap (λ (n : ℕ). bit_xor n 0) e ∙ sym e) (λ (e : bit w j ≡ 1). ap (λ (n : ℕ). bit_xor n 0) e ∙ sym e) (bit-or w j)

-- counting below a + b is counting below a, and from a on
pub count_split : (f : ℕ → Bool) (a b : ℕ) → count_below f (a + b) ≡ count_below f a + count_below (λ (k : ℕ). f (a + k)) b
unfolding count_below
count_split f a zero = ap (count_below f) (add-zero a) ∙ sym (add-zero (count_below f a))
count_split f a (suc b) =
    ap (count_below f) (sym (suc-sum a b)) ∙ ap (λ (n : ℕ). n + cond (f (a + b)) 1 0) (count_split f a b)
    ∙ add_assoc (count_below f a) (count_below (λ (k : ℕ). f (a + k)) b) (cond (f (a + b)) 1 0)
  where
    suc-sum : (x y : ℕ) → suc (x + y) ≡ x + suc y
    suc-sum x y = omega arith

pub count_same : (f g : ℕ → Bool) (n : ℕ) → ((k : ℕ) → k < n → f k ≡ g k) → count_below f n ≡ count_below g n
unfolding count_below
count_same f g zero h = refl
count_same f g (suc n) h = ap₂ (λ (x : ℕ) (b : Bool). x + cond b 1 0) (count_same f g n (λ k l. h k (omega arith))) (h n (omega arith))

abbrev pub is_set : ℕ → ℕ → Bool
is_set w j = eqb (bit w j) 1

set_counts : (n : ℕ) → n < 2 → n ≡ cond (eqb n 1) 1 0
set_counts zero h = refl
set_counts (suc zero) h = refl
set_counts (suc (suc n)) h = absurd (omega arith)

-- the ones of a word of d bits
pub ones_count : (d w : ℕ) → w < 2 ^ d → ones w ≡ count_below (is_set w) d
unfolding ones count_below
ones_count zero w h = ap ones (lt-one h)
ones_count (suc d) w h =
    let l : w / 2 ^ 1 < 2 ^ d = shr_lt d 1 (subst (λ (n : ℕ). w < 2 ^ n) (sym (add-one d)) h) in
    let low : w % 2 ≡ 0 + cond (is_set w 0) 1 0 =
    set_counts (w % 2) (mod-lt w (zero-lt-suc 1)) ∙ ap (λ (n : ℕ). cond (eqb (n % 2) 1) 1 0) (sym (div-one w)) ∙ sym (zero-add (cond (is_set w 0) 1 0)) in
    let rest : ones (w / 2) ≡ count_below (λ (k : ℕ). is_set w (1 + k)) d =
    ones_count d (w / 2) l ∙ count_same (is_set (w / 2)) (λ (k : ℕ). is_set w (1 + k)) d (λ k _. ap (λ (n : ℕ). eqb (n % 2) 1) (shr-shr w 1 k)) in
    ones_step w ∙ ap₂ (λ (a b : ℕ). a + b) low rest
    ∙ sym (ap (count_below (is_set w)) (one_more d) ∙ count_split (is_set w) 1 d)
  where
    one_more : (n : ℕ) → suc n ≡ 1 + n
    one_more n = omega arith
