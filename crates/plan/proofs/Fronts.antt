-- The count and the index in front of the runs.
-- Assumes nothing.
use Prim.Native.Nat.{ℕ, zero, suc, ◌+◌, ◌*◌, ◌-◌, ◌≤◌, ◌<◌}
use mathlib.Core.Path.{◌≡◌, refl, sym, ap, ◌∙◌}
use mathlib.Core.List.{List, [], ◌∷◌, ◌++◌}
use native.Mathlib.Numerals.{add-one}
use native.Mathlib.Omega.{arith}
use mir.Syntax.{w64}
use mir.Val.{Fits}
use lib.ListN.{length, get_or, set, length-append}
use Rattle.wire.specs.Bytes.{over}
use Rattle.table.specs.Layout.{most_types}
use Rattle.plan.specs.Layout.{index_word}
use Rattle.plan.specs.Laying.{Before, most_runs, index_of}
use Rattle.wire.proofs.Runs.{over_none, over_over, set_over, length_over}
use Rattle.wire.proofs.Cond.{yes_lt, no_lt}

pub no_word : (first many leaves : ℕ) → leaves ≡ 0 → 0 ≡ index_word first many leaves
unfolding index_word
no_word first many leaves h = sym (no_lt _ 0 0 leaves (omega arith))

pub a_word : (first many leaves : ℕ) → (leaves ≡ 0 → ⊥) → 4294967296 * first + 65536 * many + leaves ≡ index_word first many leaves
unfolding index_word
a_word first many leaves h = sym (yes_lt _ 0 0 leaves (omega arith))

-- the starts are small, and in order
module _ (starts : List ℕ) (n k : ℕ) (few : n ≤ most_types) (before : Before starts n most_runs) (h : k < n) where
  pub first_fits : Fits w64 (1 + n + get_or starts k 0)
  first_fits = record { fits = omega (arith, before.order k h, before.below k h) }

  pub in_order : get_or starts k 0 ≤ get_or starts (k + 1) 0
  in_order = before.order k h

-- the index word by word
module _ (counts starts : List ℕ) (before : ℕ) where
  pub length-index : (n : ℕ) → length (index_of counts starts before n) ≡ n
  unfolding index_of
  length-index zero = refl
  length-index (suc n) =
      length-append (index_of counts starts before n)
      (index_word (before + get_or starts n 0) (get_or starts (n + 1) 0 - get_or starts n 0) (get_or counts n 0) ∷ [])
      ∙ omega (arith, length-index n)

  pub index-none : (l : List ℕ) → l ≡ over l 1 (index_of counts starts before 0)
  unfolding index_of
  index-none l = over_none l 1 []

  pub index-more : (l₀ l : List ℕ) (k n x : ℕ) → l ≡ over l₀ 1 (index_of counts starts before k)
      → x ≡ index_word (before + get_or starts k 0) (get_or starts (k + 1) 0 - get_or starts k 0) (get_or counts k 0)
      → n < length l₀ → k < n → set l (k + 1) x ≡ over l₀ 1 (index_of counts starts before (k + 1))
  unfolding index_of
  index-more l₀ l k n x held is a b =
      let xs : List ℕ = index_of counts starts before k in
      let p : length xs ≡ k = length-index k in
      let q : 1 + length xs ≡ k + 1 = omega arith in
      let m : length (over l₀ 1 xs) ≡ length l₀ = length_over l₀ 1 xs (omega arith) in
      ap (λ (u : List ℕ). set u (k + 1) x) held
      ∙ set_over (over l₀ 1 xs) (k + 1) x (omega arith)
      ∙ ap (λ (i : ℕ). over (over l₀ 1 xs) i (x ∷ [])) (sym q)
      ∙ over_over l₀ 1 xs (x ∷ []) (omega (arith, length-append xs (x ∷ [])))
      ∙ ap (λ (i : ℕ). over l₀ 1 (xs ++ (i ∷ []))) is
      ∙ ap (λ (j : ℕ). over l₀ 1 (index_of counts starts before j)) (sym (add-one k))
