-- The index as it is laid, word by word, and what its words say.
-- Assumes nothing.
use Prim.Native.Nat.{ℕ, zero, suc, ◌+◌, ◌*◌, ◌/◌, ◌≤◌, ◌<◌}
use mathlib.Core.Path.{◌≡◌, refl, sym, ap, ◌∙◌}
use mathlib.Core.Logic.{⊎_elim}
use mathlib.Core.List.{List}
use native.Mathlib.Nat.{eq-or-lt_of_le}
use native.Mathlib.Numerals.{add-one}
use native.Mathlib.Omega.{arith}
use lib.ListN.{length, get_or, set, length-set}
use lib.Seq.{set_out, get_or-set_same, get_or-set_other}
use mir.Syntax.{w64}
use mir.Val.{Fits}
use Rattle.wire.specs.Bytes.{number}
use Rattle.operations.specs.Entries.{op_place, id_at}
use Rattle.operations.specs.Search.{half, index_word, indexed, id_in, place_in}
use Rattle.operations.proofs.Places.{place_fits}

pub not_put : (l : List ℕ) (i a : ℕ) → length l ≤ i → l ≡ set l i a
not_put l i a h = sym (set_out l i a h)

module _ (t : List ℕ) (first : ℕ) (words : List ℕ) where
  pub none_laid : words ≡ indexed t first 0 words
  unfolding indexed
  none_laid = refl

  pub length-indexed : (n : ℕ) → length (indexed t first n words) ≡ length words
  unfolding indexed
  length-indexed zero = refl
  length-indexed (suc n) = length-set (indexed t first n words) n (index_word t first n) ∙ length-indexed n

  pub laid-length : (i : ℕ) (u : List ℕ) → u ≡ indexed t first i words → length u ≡ length words
  laid-length i u e = ap length e ∙ length-indexed i

  pub all_laid : (n i : ℕ) (u : List ℕ) → u ≡ indexed t first i words → i ≤ n → n ≤ i → u ≡ indexed t first n words
  all_laid n i u e a b = e ∙ ap (λ (k : ℕ). indexed t first k words) (omega arith)

  pub one-laid : (i p w : ℕ) (u v : List ℕ) → p ≡ op_place t first i → w / half ≡ number 2 t p → u ≡ indexed t first i words
      → v ≡ set u i (w / half * half + p) → v ≡ indexed t first (i + 1) words
  unfolding indexed index_word id_at
  one-laid i p w u v here is e f = rw (add-one i, f, e, is, here) refl

  -- a word below n is the entry's, where there is room for it
  pub word-laid : (n i : ℕ) → i < n → i < length words → get_or (indexed t first n words) i 0 ≡ index_word t first i
  unfolding indexed
  word-laid zero i h l = absurd (omega arith)
  word-laid (suc n) i h l =
      let m : i ≤ n = omega arith in
      ⊎_elim
      (λ (e : i ≡ n). ap (λ (k : ℕ). get_or (indexed t first (suc n) words) k 0) e
      ∙ get_or-set_same (indexed t first n words) n (index_word t first n) 0 (omega (arith, length-indexed n))
      ∙ ap (index_word t first) (sym e))
      (λ (g : i < n). get_or-set_other (indexed t first n words) n i (index_word t first n) 0 (λ (e : i ≡ n). omega arith) ∙ word-laid n i g l)
      (eq-or-lt_of_le m)

  -- and from n on every word stays
  pub word_kept : (n i : ℕ) → n ≤ i → get_or (indexed t first n words) i 0 ≡ get_or words i 0
  unfolding indexed
  word_kept zero i h = refl
  word_kept (suc n) i h =
      get_or-set_other (indexed t first n words) n i (index_word t first n) 0 (λ (e : i ≡ n). omega arith) ∙ word_kept n i (omega arith)

-- a word fits 64 bits
pub word_fits : (t : List ℕ) (first i p n w : ℕ) → p ≡ op_place t first i → first < 65536 → i < n → n < 65536 → w < 18446744073709551616
    → Fits w64 (w / half * half + p)
word_fits t first i p n w here low l few h = record { fits = omega (arith, place_fits t first i p here n low l few) }

-- the two halves of an entry's word
module _ (t : List ℕ) (first : ℕ) (index : List ℕ) (i : ℕ) (is : get_or index i 0 ≡ index_word t first i) (low : op_place t first i < half) where
  pub id-in : id_in index i ≡ id_at t first i
  unfolding index_word
  id-in = omega arith

  pub place-in : place_in index i ≡ op_place t first i
  unfolding index_word
  place-in = omega arith
