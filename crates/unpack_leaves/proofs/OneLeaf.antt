-- A leaf of a base code that is there: its word, each arm being the rule of its code, and that the word is allowed.
-- Assumes nothing.
use Prim.Native.Nat.{ℕ, ◌+◌, ◌-◌, ◌≤◌, ◌<◌}
use mathlib.Core.Path.{◌≡◌, refl, sym, ap, ◌∙◌}
use mathlib.Core.Bool.{Bool, true, false}
use mathlib.Core.List.{List, [], ◌∷◌}
use native.Mathlib.Nat.{add-zero}
use native.Mathlib.Omega.{arith}
use borrow.Author.Tests.{le-leb, lt-leb, leb-true}
use lib.Dec.{ltb, leb}
use lib.ListN.{length, set}
use Rattle.wire.specs.Bytes.{number, written, Octets}
use Rattle.wire.proofs.Cond.{and_left, and_right, yes-if}
use Rattle.table.specs.Leaf.{Leaf, base, width, allowed}
use Rattle.table.proofs.Leaves.{none_of}
use Rattle.leaf.specs.declared.codes.Range.{Range}
use Rattle.leaf.specs.Limits.{range_of}
use Rattle.leaf.specs.Forms.{truth, extended, word_of, word_at}
use Rattle.leaf.proofs.Limits.{every-word}
use Rattle.walk.proofs.Walks.{some_bytes}
use Rattle.walk.proofs.Returns.{stored as put_in}
use Rattle.unpack_leaves.specs.Leaves.{is_there, whole_word}

-- the room of the code that was met
pub room_of : (n w : ℕ) → w ≡ width n → (p l code : ℕ) → code ≡ n → p + width code ≤ l → p + w ≤ l
room_of n w e p l code h r = rw (e, ← h) r

-- its word, where that was asked for one that has them all; and where the test failed
module _ (b : List ℕ) (from n code : ℕ) (h : Bool) (is : n ≡ width code) (room : h ≡ leb (from + n) (length b)) where
  pub fits-is : leb (from + width code) (length b) ≡ h
  fits-is = rw (← is) (sym room)

  pub word_there : (w : ℕ) → h ≡ true → w ≡ whole_word code b from → w ≡ word_at code b from
  word_there w f e = e ∙ yes-if (word_at code b from) 0 (fits-is ∙ f)

  pub word_whole : (w : ℕ) → h ≡ true → w ≡ word_at code b from → w ≡ whole_word code b from
  word_whole w f e = e ∙ sym (yes-if (word_at code b from) 0 (fits-is ∙ f))

-- reading: the arm of code n
pub at_truth : (s : List ℕ) (p x r code : ℕ) → x ≡ number 0 s p → r ≡ truth x → code ≡ 0 → r ≡ word_at code s p
unfolding word_at base word_of
at_truth s p x r code e h c = rw (c, ← e) h

module _ (n k : ℕ) where
  pub at-extended : (half : ℕ) → ((s : List ℕ) (p : ℕ) → extended half (number k s p) ≡ word_at n s p) → (s : List ℕ) (p x r code : ℕ) → x
      ≡ number k s p → r ≡ extended half x → code ≡ n → r ≡ word_at code s p
  at-extended half is s p x r code e h c = h ∙ ap (extended half) e ∙ is s p ∙ ap (λ (m : ℕ). word_at m s p) (sym c)

  pub at-number : ((s : List ℕ) (p : ℕ) → number k s p ≡ word_at n s p) → (s : List ℕ) (p x code : ℕ) → x ≡ number k s p → code ≡ n → x ≡ word_at code s p
  at-number is s p x code e c = e ∙ is s p ∙ ap (λ (m : ℕ). word_at m s p) (sym c)

-- of 64 bits nothing is left to carry
pub all_bits : (x : ℕ) → x ≡ extended 9223372036854775808 x
unfolding extended
all_bits x = go (ltb x 9223372036854775808) refl
  where
    go : (b : Bool) → ltb x 9223372036854775808 ≡ b → x ≡ extended 9223372036854775808 x
    go true e = rw e refl
    go false e = rw e (sym (add-zero x))

-- no base code at all
pub no_word : (x : ℕ) → (x ≡ 0 → ⊥) → (x ≡ 1 → ⊥) → (x ≡ 2 → ⊥) → (x ≡ 3 → ⊥) → (x ≡ 4 → ⊥) → (x ≡ 5 → ⊥) → (x ≡ 6 → ⊥) → (x ≡ 7 → ⊥)
    → (x ≡ 8 → ⊥) → (x ≡ 9 → ⊥) → (x ≡ 10 → ⊥) → (x ≡ 11 → ⊥) → (x ≡ 12 → ⊥) → (s : List ℕ) (p : ℕ) → 0 ≡ word_at x s p
unfolding word_at word_of
no_word x d0 d1 d2 d3 d4 d5 d6 d7 d8 d9 d10 d11 d12 s p =
    sym (ap (λ (l : Leaf). word_of l s p) (none_of x d0 d1 d2 d3 d4 d5 d6 d7 d8 d9 d10 d11 d12))

-- a store of the word that was read
pub stored_word : (x : List ℕ) (p w : ℕ) (b : List ℕ) (from code : ℕ) → p < length x → w ≡ word_at code b from → set x p w
    ≡ written x p (word_at code b from ∷ [])
stored_word x p w b from code h e = put_in x p w h ∙ ap (λ (v : ℕ). written x p (v ∷ [])) e

module _ (b : List ℕ) (from code n : ℕ) (in-payload : from ≤ length b) (is : n ≡ width code) where
  pub cut_off : length b - from < n → false ≡ is_there b code from
  unfolding is_there
  cut_off h = rw (lt-leb (from + width code) (length b) (omega (arith, is))) refl

  module _ (h : n ≤ length b - from) where
    pub all_there : from + width code ≤ length b
    all_there = omega (arith, is)

    pub judged : (r : Bool) → r ≡ allowed code (word_at code b from) → r ≡ is_there b code from
    unfolding is_there
    judged r g = rw (le-leb (from + width code) (length b) all_there) g

-- the word of a leaf that is there is allowed: of char8; where every word is; and by its test
module _ (b : List ℕ) (from code : ℕ) where
  pub is-char8 : (w : ℕ) (r : Bool) → code ≡ 2 → w ≡ number 0 b from → r ≡ allowed 2 w → r ≡ allowed code (word_at code b from)
  unfolding word_at base word_of
  is-char8 w r c e h = rw (c, ← e) h

  pub surely : Octets b → (g : Range) → g ≡ range_of (base code) → g.every ≡ true → true ≡ allowed code (word_at code b from)
  surely o g e h = sym (every-word b from o code g e h)

-- where it is there, its bytes are
pub there_room : (b : List ℕ) (from code : ℕ) (r : Bool) → r ≡ is_there b code from → r ≡ true → from + width code ≤ length b
unfolding is_there
there_room b from code r h g = leb-true (from + width code) (length b)
    (and_left (leb (from + width code) (length b)) (allowed code (word_at code b from)) (sym h ∙ g))

-- and it has a byte at least
pub there_some : (b : List ℕ) (from code : ℕ) → is_there b code from ≡ true → 1 ≤ width code
unfolding is_there
there_some b from code h =
    some_bytes code (word_at code b from) (and_right (leb (from + width code) (length b)) (allowed code (word_at code b from)) h)
