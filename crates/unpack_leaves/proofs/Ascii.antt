-- A run of char8, judged by one test: its bytes put together are ASCII just where each of them is (02, request 2).
-- Assumes nothing.
use Prim.Native.Nat.{ℕ, ◌+◌, ◌*◌, ◌≤◌, ◌<◌}
use mathlib.Core.Path.{◌≡◌, refl, sym, ap, ap₂, subst, ◌∙◌}
use mathlib.Core.Bool.{Bool, true, false, ◌&&◌}
use mathlib.Core.List.{List}
use native.Mathlib.Nat.{mul-one}
use native.Mathlib.Numerals.{add-one}
use native.Mathlib.Omega.{arith}
use borrow.Author.Tests.{le-leb, lt-leb, leb-true, leb-false, ltb-true, ltb-false}
use mir.Syntax.{w8}
use mir.Val.{Fits}
use lib.Bits.{bit_or, or_lt}
use lib.Dec.{ltb, leb}
use lib.ListN.{get_or}
use Rattle.wire.specs.All.{all_below}
use Rattle.wire.proofs.Bits.{or_left, or_right}
use Rattle.table.specs.Leaf.{base, bytes_of, is_value, width, allowed}
use Rattle.leaf.specs.declared.codes.Range.{Range}
use Rattle.leaf.specs.Limits.{range_of}
use Rattle.leaf.specs.Forms.{word_of, word_at}
use Rattle.unpack_leaves.specs.OneCode.{is_good}

-- two bytes put together, the second judged by its leaf
both_ascii : (a x : ℕ) → leb (bit_or a x) 127 ≡ (leb a 127 && ltb x 128)
both_ascii a x = go (leb a 127) (ltb x 128) refl refl
  where
    go : (p q : Bool) → leb a 127 ≡ p → ltb x 128 ≡ q → leb (bit_or a x) 127 ≡ (p && q)
    go true true e h = le-leb (bit_or a x) 127 (omega (arith, or_lt 7 a x (omega (arith, leb-true a 127 e)) (ltb-true x 128 h)))
    go true false e h = lt-leb (bit_or a x) 127 (omega (arith, or_right a x, ltb-false x 128 h))
    go false q e h = lt-leb (bit_or a x) 127 (omega (arith, or_left a x, leb-false a 127 e))

pub still_byte : (all x : ℕ) → all < 256 → Fits w8 x → bit_or all x < 256
still_byte all x h f = or_lt 8 all x h (omega arith)

module _ (b : List ℕ) (from : ℕ) where
  -- a leaf is a byte
  char-at : (k : ℕ) → is_good b 2 from k ≡ ltb (get_or b (from + k) 0) 128
  unfolding allowed word_at width base bytes_of word_of is_value
  char-at k = ap (λ (n : ℕ). ltb (get_or b (from + n) 0) 128) (mul-one k)

  pub none-ascii : leb 0 127 ≡ all_below (is_good b 2 from) 0
  unfolding all_below
  none-ascii = refl

  pub more-ascii : (all k : ℕ) → leb all 127 ≡ all_below (is_good b 2 from) k
      → leb (bit_or all (get_or b (from + k) 0)) 127 ≡ all_below (is_good b 2 from) (k + 1)
  unfolding all_below
  more-ascii all k h =
      both_ascii all (get_or b (from + k) 0) ∙ ap₂ ◌&&◌ h (sym (char-at k)) ∙ ap (all_below (is_good b 2 from)) (sym (add-one k))

  pub all_ascii : (all k n : ℕ) (r : Range) → leb all 127 ≡ all_below (is_good b 2 from) k → k ≤ n → n ≤ k → r ≡ range_of (base 2)
      → leb all r.last ≡ all_below (is_good b 2 from) n
  unfolding base range_of
  all_ascii all k n r h i j e = rw e (h ∙ ap (all_below (is_good b 2 from)) (omega arith))

  -- what a run of the code comes to, where it is char8
  module _ (code n : ℕ) (is : code ≡ 2) where
    pub chars-in : (l : ℕ) → from + n * width code ≤ l → from + n ≤ l
    unfolding width base bytes_of
    chars-in l h = let g : from + n * width 2 ≤ l = subst (λ (c : ℕ). from + n * width c ≤ l) is h in omega arith
