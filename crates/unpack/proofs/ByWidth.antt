-- A leaf's word by how wide it is: of the codes of a width that is more than one byte only one is not the number itself.
-- Assumes nothing.
use Prim.Native.Nat.{ℕ, ◌+◌, ◌≤◌}
use mathlib.Core.Path.{◌≡◌, refl, sym, ap, ◌∙◌}
use mathlib.Core.List.{List}
use native.Mathlib.Omega.{arith}
use lib.ListN.{length}
use Rattle.wire.specs.Bytes.{number}
use Rattle.wire.proofs.Cond.{yes_le}
use Rattle.table.specs.Leaf.{base, bytes_of, width}
use Rattle.table.proofs.Leaves.{Each, any, no-base}
use Rattle.leaf.specs.Forms.{word_at, word_of}
use Rattle.unpack_leaves.specs.Leaves.{whole_word}
use Rattle.unpack_leaves.proofs.OneLeaf.{all_bits}

-- a word that was asked for of a leaf that is there
pub of_one : (s : List ℕ) (p code w : ℕ) → p + width code ≤ length s → w ≡ whole_word code s p → w ≡ word_at code s p
of_one s p code w h e = e ∙ yes_le (word_at code s p) 0 (p + width code) (length s) h

-- a code that is none has no bytes
no_width : (n code : ℕ) → 13 ≤ code → width code ≡ n → n ≡ 0
unfolding width bytes_of
no_width n code h e = sym (sym (ap bytes_of (no-base code h)) ∙ e)

-- a number of so many bytes, where the code is not the one of them that has a sign; of eight bytes the sign is carried nowhere
module _ (s : List ℕ) (p : ℕ) where
  pub of_two : (code r : ℕ) → width code ≡ 2 → (code ≡ 3 → ⊥) → r ≡ number 1 s p → r ≡ word_at code s p
  unfolding width base bytes_of word_at word_of
  of_two code r e not h = h ∙ any P here (λ n l g d. absurd (let z : ◌≡◌ {A = ℕ} 2 0 = no_width 2 n l g in omega arith)) code e not
    where
      P : ℕ → Type 0
      P n = width n ≡ 2 → (n ≡ 3 → ⊥) → number 1 s p ≡ word_at n s p

      here : Each P
      here = (
        λ g d. absurd (omega arith),
        λ g d. absurd (omega arith),
        λ g d. absurd (omega arith),
        λ g d. absurd (d refl),
        λ g d. absurd (omega arith),
        λ g d. absurd (omega arith),
        λ g d. absurd (omega arith),
        λ g d. absurd (omega arith),
        λ g d. refl,
        λ g d. absurd (omega arith),
        λ g d. absurd (omega arith),
        λ g d. absurd (omega arith),
        λ g d. absurd (omega arith),
      )

  pub of_four : (code r : ℕ) → width code ≡ 4 → (code ≡ 4 → ⊥) → r ≡ number 2 s p → r ≡ word_at code s p
  unfolding width base bytes_of word_at word_of
  of_four code r e not h = h ∙ any P here (λ n l g d. absurd (let z : ◌≡◌ {A = ℕ} 4 0 = no_width 4 n l g in omega arith)) code e not
    where
      P : ℕ → Type 0
      P n = width n ≡ 4 → (n ≡ 4 → ⊥) → number 2 s p ≡ word_at n s p

      here : Each P
      here = (
        λ g d. absurd (omega arith),
        λ g d. absurd (omega arith),
        λ g d. absurd (omega arith),
        λ g d. absurd (omega arith),
        λ g d. absurd (d refl),
        λ g d. absurd (omega arith),
        λ g d. absurd (omega arith),
        λ g d. absurd (omega arith),
        λ g d. absurd (omega arith),
        λ g d. refl,
        λ g d. absurd (omega arith),
        λ g d. refl,
        λ g d. absurd (omega arith),
      )

  pub of-eight : (code m r : ℕ) → m ≡ width code → m ≡ 8 → r ≡ number 3 s p → r ≡ word_at code s p
  unfolding width base bytes_of word_at word_of
  of-eight code m r e is h = h ∙ any P here (λ n l g. absurd (let z : ◌≡◌ {A = ℕ} 8 0 = no_width 8 n l g in omega arith)) code (sym e ∙ is)
    where
      P : ℕ → Type 0
      P n = width n ≡ 8 → number 3 s p ≡ word_at n s p

      here : Each P
      here = (
        λ g. absurd (omega arith),
        λ g. absurd (omega arith),
        λ g. absurd (omega arith),
        λ g. absurd (omega arith),
        λ g. absurd (omega arith),
        λ g. all_bits (number 3 s p),
        λ g. absurd (omega arith),
        λ g. absurd (omega arith),
        λ g. absurd (omega arith),
        λ g. absurd (omega arith),
        λ g. refl,
        λ g. absurd (omega arith),
        λ g. refl,
      )
