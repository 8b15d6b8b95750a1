-- The loop over base codes: one leaf more that is judged.
-- Assumes nothing.
use Prim.Native.Nat.{ℕ, suc, min, ◌+◌, ◌-◌, ◌*◌, ◌^◌, ◌≤◌, ◌<◌}
use mathlib.Core.Path.{◌≡◌, refl, sym, ap, ap₂, ◌∙◌}
use mathlib.Core.Bool.{Bool, true, false}
use mathlib.Core.Logic.{⊎_elim}
use mathlib.Core.List.{List, [], ◌∷◌, ◌++◌}
use native.Mathlib.Nat.{add-zero, zero-add, eq-or-lt_of_le}
use native.Mathlib.Numerals.{add-one}
use native.Mathlib.Omega.{arith}
use mir.Syntax.{w64}
use mir.Val.{Fits}
use lib.ListN.{length, get_or, take, drop, drop_of_length-le}
use lib.Seq.{length-take-le, take-suc, drop-cons}
use Rattle.wire.proofs.Cond.{yes-if, no-if}
use Rattle.table.specs.Leaf.{width, allowed}
use Rattle.walk.proofs.Walks.{few_bytes}
use Rattle.pack_leaves.specs.Stored.{is_there, taken_count, ends}
use Rattle.pack_leaves.proofs.There.{judged}
use Rattle.pack_leaves.proofs.Behind.{ends_append, ends_near, count-words}

-- what is left of the codes
next_code : (codes : List ℕ) (k : ℕ) → k < length codes → drop k codes ≡ get_or codes k 0 ∷ drop (k + 1) codes
next_code codes k h = drop-cons codes k 0 h ∙ ap (λ (n : ℕ). get_or codes k 0 ∷ drop n codes) (sym (add-one k))

-- judging: none where there is no word
pub none_there : (ws codes : List ℕ) (from : ℕ) → length ws ≤ from → 0 ≡ taken_count ws codes from
none_there ws codes from h = omega (arith, count-words ws codes from)

pub none_ends : 0 ≡ ends [] 0
unfolding ends
none_ends = refl

pub end_at : (codes : List ℕ) (b k t : ℕ) → b ≡ ends (take k codes) 0 → k ≡ t → b ≡ ends (take t codes) 0
end_at codes b k t h e = h ∙ ap (λ (n : ℕ). ends (take n codes) 0) e

module _ (ws codes : List ℕ) (from : ℕ) where
  -- so many leaves are judged
  abbrev pub So-far : ℕ → Type 0
  So-far k = taken_count ws codes from ≡ k + taken_count ws (drop k codes) (from + k)

  pub none-judged : So-far 0
  none-judged = ap (taken_count ws codes) (sym (add-zero from)) ∙ sym (zero-add (taken_count ws codes (from + 0)))

  module _ (k n : ℕ) (below : k < n) (least : n ≡ min (length codes) (length ws - from)) (so_far : So-far k) (r : Bool)
      (is : r ≡ allowed (get_or codes k 0) (get_or ws (from + k) 0)) where
    left : taken_count ws (drop k codes) (from + k) ≡ taken_count ws (get_or codes k 0 ∷ drop (k + 1) codes) (from + k)
    left = ap (λ (cs : List ℕ). taken_count ws cs (from + k)) (next_code codes k (omega arith))

    taken : r ≡ is_there ws (get_or codes k 0) (from + k)
    taken = judged ws (from + k) (get_or codes k 0) r (omega arith) is

    pub more-judged : r ≡ true → So-far (k + 1)
    unfolding taken_count
    more-judged y =
        let m : ℕ = taken_count ws (drop (k + 1) codes) (from + k + 1) in
        let e : from + k + 1 ≡ from + (k + 1) = omega arith in
        let q : taken_count ws (drop k codes) (from + k) ≡ suc m = left ∙ yes-if (suc m) 0 (sym taken ∙ y) in
        let g : m ≡ taken_count ws (drop (k + 1) codes) (from + (k + 1)) = ap (taken_count ws (drop (k + 1) codes)) e in
        omega arith

    pub one-refused : r ≡ false → k ≡ taken_count ws codes from
    unfolding taken_count
    one-refused y =
        let m : ℕ = taken_count ws (drop (k + 1) codes) (from + k + 1) in
        let q : taken_count ws (drop k codes) (from + k) ≡ 0 = left ∙ no-if (suc m) 0 (sym taken ∙ y) in
        omega arith

  pub all-judged : (k n : ℕ) → n ≤ k → k ≤ n → n ≡ min (length codes) (length ws - from) → So-far k → k ≡ taken_count ws codes from
  unfolding taken_count
  all-judged k n a b least so_far =
      let there : n ≤ length ws - from = omega arith in
      ⊎_elim
      (λ (e : n ≡ length ws - from). omega (arith, count-words ws (drop k codes) (from + k)))
      (λ (l : n < length ws - from).
      let o : length codes ≤ k = omega arith in
      let d : taken_count ws (drop k codes) (from + k) ≡ 0 = ap (λ (cs : List ℕ). taken_count ws cs (from + k)) (drop_of_length-le codes o) in
      omega arith)
      (eq-or-lt_of_le there)

-- their bytes
module _ (codes : List ℕ) (k n m from : ℕ) (below : k < n) (least : n ≡ min (length codes) (m - from))
    (b w : ℕ) (is : w ≡ width (get_or codes k 0)) (end : b ≡ ends (take k codes) 0) where
  pub more-fits : m * 8 < 2 ^ 63 → Fits w64 (b + w)
  more-fits l =
      let so : length (take k codes) ≡ k = length-take-le k codes (omega arith) in
      record { fits = omega (arith, ends_near (take k codes) 0, few_bytes (get_or codes k 0)) }

  pub more-ends : b + w ≡ ends (take (k + 1) codes) 0
  unfolding ends
  more-ends =
      let one : take (k + 1) codes ≡ take k codes ++ (get_or codes k 0 ∷ []) = ap (λ (m : ℕ). take m codes) (add-one k) ∙ take-suc codes k 0 (omega arith) in
      ap₂ (λ (a m : ℕ). a + m) end is ∙ sym (ap (λ (cs : List ℕ). ends cs 0) one ∙ ends_append (take k codes) (get_or codes k 0 ∷ []) 0)
