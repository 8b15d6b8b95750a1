-- A block whose services are marked UNAVAILABLE, word by word.
-- Assumes nothing.
use Prim.Native.Nat.{ℕ, suc, ◌+◌, ◌≤◌, ◌<◌}
use mathlib.Core.Path.{◌≡◌, refl, sym, ap, ap₂, ◌∙◌}
use mathlib.Core.Bool.{Bool, true, false, cond}
use mathlib.Core.List.{List, ◌∷◌, ◌++◌, append-nil}
use native.Mathlib.Omega.{arith}
use native.Mathlib.Numerals.{add-one}
use lib.ListN.{length, take, drop, get_or, set, take-append-drop, drop_of_length-le}
use Rattle.std.proofs.lemmas.List.{set-get_or}
use lib.Seq.{take_all, take-suc-set, drop-set-lt, drop-cons, append_snoc}
use Rattle.services.specs.Word.{is_free, unavailable_of}
use Rattle.services.specs.Block.{marked}

-- `mark`: the first i words are marked, and what is left to mark stands behind them
module _ (was b : List ℕ) (i : ℕ) (n : length b ≡ length was) (e : marked was ≡ take i b ++ marked (drop i b)) where
  marked-here : i < length b → marked (drop i b) ≡ cond (is_free (get_or b i 0)) (drop i b) (unavailable_of (get_or b i 0) ∷ marked (drop (suc i) b))
  unfolding marked
  marked-here h = rw (drop-cons b i 0 h) refl

  pub stops-here : {r : Bool} → i < length was → r ≡ is_free (get_or b i 0) → r ≡ true → set b i (get_or b i 0) ≡ marked was
  stops-here k q t =
      let h : i < length b = omega arith in
      let stays : marked (drop i b) ≡ drop i b = marked-here h ∙ ap (λ (f : Bool). cond f (drop i b) left) (sym q ∙ t) in
      set-get_or b i 0 ∙ sym (e ∙ ap (λ (x : List ℕ). take i b ++ x) stays ∙ take-append-drop i b)
    where
      left : List ℕ
      left = unavailable_of (get_or b i 0) ∷ marked (drop (suc i) b)

  pub goes_on : {r : Bool} {w : ℕ} → i < length was → r ≡ is_free (get_or b i 0) → r ≡ false → w ≡ unavailable_of (get_or b i 0)
      → marked was ≡ take (i + 1) (set b i w) ++ marked (drop (i + 1) (set b i w))
  goes_on {w = w} k q t f =
      let h : i < length b = omega arith in
      let next : marked (drop i b) ≡ unavailable_of (get_or b i 0) ∷ marked (drop (suc i) b) =
      marked-here h ∙ ap (λ (n : Bool). cond n (drop i b) (unavailable_of (get_or b i 0) ∷ marked (drop (suc i) b))) (sym q ∙ t) in
      rw (add-one i) (e ∙ ap (λ (x : List ℕ). take i b ++ x) (next ∙ ap (λ (x : ℕ). x ∷ marked (drop (suc i) b)) (sym f))
      ∙ sym (append_snoc (take i b) w (marked (drop (suc i) b)))
      ∙ ap₂ (λ (x y : List ℕ). x ++ marked y) (sym (take-suc-set b i w h)) (sym (drop-set-lt (suc i) b i w (omega arith))))

  pub all-marked : length was ≤ i → b ≡ marked was
  unfolding marked
  all-marked k =
      let h : length b ≤ i = omega arith in
      sym (e ∙ ap₂ (λ (x y : List ℕ). x ++ marked y) (take_all i b h) (drop_of_length-le b h) ∙ append-nil b)
