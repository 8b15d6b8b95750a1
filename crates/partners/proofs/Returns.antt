-- What the functions come to at their returns.
-- Assumes nothing.
use Prim.Native.Nat.{ℕ, min, ◌+◌, ◌*◌, ◌/◌, ◌%◌, ◌^◌, ◌≤◌, ◌<◌}
use mathlib.Core.Path.{◌≡◌, refl, sym, ap, ap₂, ◌∙◌}
use mathlib.Core.Bool.{Bool, true, false, ◌&&◌}
use mathlib.Core.List.{List}
use mathlib.Core.Logic.{◌⊎◌, inl, inr}
use native.Mathlib.Omega.{arith}
use native.Mathlib.Numerals.{add-one}
use native.Mathlib.Nat.{mod-lt, zero-lt-suc}
use mir.Syntax.{w64}
use mir.Val.{Fits}
use lib.Bits.{bit_or, bit_xor}
use lib.Dec.{eqb, ltb}
use lib.ListN.{length, get_or, set}
use lib.Seq.{set_out}
use Rattle.message.specs.Refusal.{platforms}
use Rattle.states.specs.States.{word_bits, mask, count_below}
use Rattle.services.specs.Block.{services}
use Rattle.wire.proofs.Cond.{yes_lt, no_lt}
use Rattle.partners.specs.Threes.{bit_in, is_three, with_three, three_set, threes_before}
use Rattle.partners.proofs.Counting.{counts_one, no_more, at_most}

pub the_bit : (w : List ℕ) (k : ℕ) {x : ℕ} → x ≡ get_or w (k / word_bits) 0 → x / 2 ^ (k % word_bits) % 2 ≡ bit_in w k
unfolding bit_in
the_bit w k e = ap (λ (n : ℕ). n / mask k % 2) e

pub three_is : (w : List ℕ) (k : ℕ) {b : ℕ} → b ≡ bit_in w k → (ltb k platforms && eqb b 1) ≡ is_three w k
unfolding is_three
three_is w k e = ap (λ (n : ℕ). ltb k platforms && eqb n 1) e

-- `with_three`
module _ (x k : ℕ) {three : Bool} {m : ℕ} (e : m ≡ mask k) where
  pub bit-set : three ≡ true → bit_or x m ≡ with_three x k three
  unfolding with_three
  bit-set t = rw (t, e) refl

  pub bit-off : {m' : ℕ} → m' ≡ mask k → three ≡ false → bit_xor (bit_or x m) m' ≡ with_three x k three
  unfolding with_three
  bit-off f t = rw (t, e, f) refl

-- `set`
module _ (w : List ℕ) (k : ℕ) (three : Bool) where
  pub one_set : {x : ℕ} → k < platforms → x ≡ with_three (get_or w (k / word_bits) 0) k three → set w (k / word_bits) x ≡ three_set w k three
  unfolding three_set
  one_set l e = ap (set w (k / word_bits)) e ∙ sym (yes_lt _ _ k platforms l)

  -- there is no word, or no platform
  pub not-set : ((k < platforms) × (length w ≤ k / word_bits)) ⊎ (platforms ≤ k) → w ≡ three_set w k three
  unfolding three_set
  not-set (inl h) = sym (yes_lt _ _ k platforms h.0 ∙ set_out w (k / word_bits) _ h.1)
  not-set (inr l) = sym (no_lt _ _ k platforms l)

-- `before`
module _ (w : List ℕ) where
  pub none-counted : 0 ≡ count_below (is_three w) 0
  unfolding count_below
  none-counted = refl

  bit-most : (j : ℕ) → bit_in w j ≤ 1
  unfolding bit_in
  bit-most j = omega (arith, mod-lt (get_or w (j / word_bits) 0 / mask j) (zero-lt-suc 1))

  pub one-more-fits : {j b count : ℕ} (k end : ℕ) → count ≤ j → end ≡ min k platforms → j < end → b ≡ bit_in w j → Fits w64 (count + b)
  one-more-fits {j = j} k end c n l f = record { fits = omega (arith, bit-most j) }

  pub one-more-most : {j b count : ℕ} → count ≤ j → b ≡ bit_in w j → count + b ≤ j + 1
  one-more-most {j = j} c f = omega (arith, bit-most j)

  pub one-counted : {j b count : ℕ} (k end : ℕ) → count ≡ count_below (is_three w) j → end ≡ min k platforms → j < end → b ≡ bit_in w j
      → count + b ≡ count_below (is_three w) (j + 1)
  unfolding count_below
  one-counted {j = j} k end e n l f = rw (add-one j) (ap₂ (λ (x y : ℕ). x + y) e (f ∙ counts_one w j (omega arith)))

  pub all_counted : {j count : ℕ} (k end : ℕ) → count ≡ count_below (is_three w) j → end ≡ min k platforms → j ≤ end → end ≤ j → count ≡ threes_before w k
  all_counted {j = j} k end e n a b =
      let q : j ≡ min k platforms = omega arith in
      e ∙ ap (count_below (is_three w)) q ∙ no_more w k

  -- `block_start`
  pub start_fits : {r : ℕ} (k : ℕ) → r ≡ threes_before w k → Fits w64 (services * r)
  start_fits k e = record { fits = omega (arith, at_most w k) }
