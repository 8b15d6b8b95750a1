-- How many platforms speak Issue 3: each bit counts its platform, and above 255 there is none.
-- Assumes nothing.
use Prim.Native.Nat.{ℕ, zero, suc, min, ◌+◌, ◌-◌, ◌/◌, ◌≤◌, ◌<◌}
use mathlib.Core.Path.{◌≡◌, refl, sym, ap, ◌∙◌}
use mathlib.Core.Bool.{Bool, true, false, cond}
use mathlib.Core.List.{List}
use native.Mathlib.Omega.{arith}
use native.Mathlib.Nat.{mod-lt, zero-lt-suc}
use borrow.Author.Tests.{lt-ltb, le-ltb, ltb-true, leb-true, leb-false}
use lib.Dec.{eqb, ltb, leb}
use lib.ListN.{get_or}
use Rattle.message.specs.Refusal.{platforms}
use Rattle.wire.proofs.Cond.{and_left}
use Rattle.states.specs.States.{word_bits, mask, count_below}
use Rattle.states.proofs.Bits.{count_split, count_same}
use Rattle.services.specs.Block.{services}
use Rattle.partners.specs.Threes.{bit_in, is_three, threes_before, block_start}

-- 02: 256 platforms; a number above 255 is in no set-up
pub above_is_none : (w : List ℕ) (k : ℕ) → platforms ≤ k → is_three w k ≡ false
unfolding is_three
above_is_none w k h = rw (le-ltb k platforms h) refl

-- of a platform that has a bit, the bit tells
pub by_bit : (w : List ℕ) (k : ℕ) → k < platforms → is_three w k ≡ eqb (bit_in w k) 1
unfolding is_three
by_bit w k h = rw (lt-ltb k platforms h) refl

pub counts_one : (w : List ℕ) (k : ℕ) → k < platforms → bit_in w k ≡ cond (is_three w k) 1 0
unfolding bit_in
counts_one w k h = go (bit_in w k) (mod-lt (get_or w (k / word_bits) 0 / mask k) (zero-lt-suc 1)) ∙ ap (λ (b : Bool). cond b 1 0) (sym (by_bit w k h))
  where
    go : (n : ℕ) → n < 2 → n ≡ cond (eqb n 1) 1 0
    go zero l = refl
    go (suc zero) l = refl
    go (suc (suc n)) l = absurd (omega arith)

none_pass : (n : ℕ) → count_below (λ (k : ℕ). false) n ≡ 0
unfolding count_below
none_pass zero = refl
none_pass (suc n) = ap (λ (x : ℕ). x + 0) (none_pass n)

pub no_more : (w : List ℕ) (k : ℕ) → count_below (is_three w) (min k platforms) ≡ threes_before w k
no_more w k = go (leb k platforms) refl
  where
    go : (t : Bool) → leb k platforms ≡ t → count_below (is_three w) (min k platforms) ≡ threes_before w k
    go true e =
        let h : k ≤ platforms = leb-true k platforms e in
        let q : min k platforms ≡ k = omega arith in
        ap (count_below (is_three w)) q
    go false e =
        let h : platforms < k = leb-false k platforms e in
        let d : ℕ = k - platforms in
        let q : min k platforms ≡ platforms = omega arith in
        let p : k ≡ platforms + d = omega arith in
        let above : count_below (λ (j : ℕ). is_three w (platforms + j)) d ≡ 0 =
        count_same (λ (j : ℕ). is_three w (platforms + j)) (λ (j : ℕ). false) d (λ j l. above_is_none w (platforms + j) (omega arith)) ∙ none_pass d in
        let all : count_below (is_three w) platforms + count_below (λ (j : ℕ). is_three w (platforms + j)) d ≡ count_below (is_three w) platforms = omega arith in
        ap (count_below (is_three w)) q ∙ sym all ∙ sym (count_split (is_three w) platforms d) ∙ ap (count_below (is_three w)) (sym p)

count_most : (f : ℕ → Bool) (n : ℕ) → count_below f n ≤ n
unfolding count_below
count_most f zero = omega arith
count_most f (suc n) = go (f n) (count_most f n)
  where
    go : (t : Bool) → count_below f n ≤ n → count_below f n + cond t 1 0 ≤ suc n
    go true h = omega arith
    go false h = omega arith

pub at_most : (w : List ℕ) (k : ℕ) → threes_before w k ≤ platforms
at_most w k =
    let h : count_below (is_three w) (min k platforms) ≤ min k platforms = count_most (is_three w) (min k platforms) in
    let q : count_below (is_three w) (min k platforms) ≡ threes_before w k = no_more w k in
    omega arith

-- a platform that speaks Issue 3 counts for all above it
module _ (w : List ℕ) where
  count-up : (j d : ℕ) → threes_before w j ≤ threes_before w (j + d)
  count-up j d = omega (arith, count_split (is_three w) j d)

  pub more-before : (j k : ℕ) → j < k → is_three w j ≡ true → threes_before w j < threes_before w k
  unfolding count_below
  more-before j k l e =
      let one : threes_before w (suc j) ≡ threes_before w j + 1 = ap (λ (b : Bool). threes_before w j + cond b 1 0) e in
      let d : ℕ = k - suc j in
      let p : suc j + d ≡ k = omega arith in
      let up : threes_before w (suc j) ≤ threes_before w (suc j + d) = count-up (suc j) d in
      let q : threes_before w (suc j + d) ≡ threes_before w k = ap (threes_before w) p in
      omega arith

  pub is_below : (k : ℕ) → is_three w k ≡ true → k < platforms
  unfolding is_three
  is_below k e = ltb-true k platforms (and_left (ltb k platforms) (eqb (bit_in w k) 1) e)

  -- its number among those that speak Issue 3 is below how many there are
  pub among-them : (k : ℕ) → is_three w k ≡ true → threes_before w k < threes_before w platforms
  among-them k e = more-before k platforms (is_below k e) e

  -- the blocks of two do not overlap, and each ends where all of them end, or before
  pub blocks-apart : (j k : ℕ) → j < k → is_three w j ≡ true → block_start w j + services ≤ block_start w k
  blocks-apart j k l e =
      let h : threes_before w j < threes_before w k = more-before j k l e in
      omega arith
