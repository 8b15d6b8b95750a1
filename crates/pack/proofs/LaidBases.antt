-- Leaves of base codes that are stored one behind another with no look at their words: so many of them, one more, and all.
-- Assumes nothing.
use Prim.Native.Nat.{ℕ, ◌+◌, ◌*◌, ◌^◌, ◌≤◌, ◌<◌}
use mathlib.Core.Path.{◌≡◌, refl, sym, ap, ap₂, ◌∙◌}
use mathlib.Core.List.{List, [], ◌∷◌, ◌++◌}
use native.Mathlib.Numerals.{add-one}
use native.Mathlib.Omega.{arith}
use mir.Syntax.{w64}
use mir.Val.{Fits}
use lib.ListN.{length, get_or, take}
use lib.Seq.{length-take-le, take_all, take-suc}
use Rattle.wire.specs.Bytes.{written}
use Rattle.table.specs.Leaf.{width}
use Rattle.leaf.specs.Forms.{form_of}
use Rattle.walk.specs.declared.Place.{Place}
use Rattle.walk.proofs.Walks.{few_bytes}
use Rattle.pack_leaves.specs.Stored.{ends, laid}
use Rattle.pack_leaves.proofs.Behind.{ends_append, ends_near, laid-append, laid-length}

-- none of them
pub ends_none : (to : ℕ) → to ≡ ends [] to
unfolding ends
ends_none to = refl

pub laid_none : (ws : List ℕ) (p : Place) (x : List ℕ) → x ≡ laid ws [] p x
unfolding laid
laid_none ws p x = refl

module _ (codes : List ℕ) (p : Place) where
  next-take : (k : ℕ) → k < length codes → take (k + 1) codes ≡ take k codes ++ (get_or codes k 0 ∷ [])
  next-take k below = ap (λ (m : ℕ). take m codes) (add-one k) ∙ take-suc codes k 0 below

  module _ (k to : ℕ) (end : to ≡ ends (take k codes) p.to) (below : k < length codes) (w : ℕ) (is : w ≡ width (get_or codes k 0)) where
    pub ends-fit : (n : ℕ) → p.to ≤ 8 * p.from → p.from + length codes ≤ n → n * 8 < 2 ^ 63 → Fits w64 (to + w)
    ends-fit n near inside l =
        let so : length (take k codes) ≡ k = length-take-le k codes (omega arith) in
        record { fits = omega (arith, ends_near (take k codes) p.to, few_bytes (get_or codes k 0)) }

    pub ends_more : to + w ≡ ends (take (k + 1) codes) p.to
    unfolding ends
    ends_more =
        ap₂ (λ (a m : ℕ). a + m) end is
        ∙ sym (ap (λ (cs : List ℕ). ends cs p.to) (next-take k below) ∙ ends_append (take k codes) (get_or codes k 0 ∷ []) p.to)

  pub ends-all : (k to : ℕ) → to ≡ ends (take k codes) p.to → length codes ≤ k → to ≡ ends codes p.to
  ends-all k to end done = end ∙ ap (λ (cs : List ℕ). ends cs p.to) (take_all k codes done)

module _ (ws codes : List ℕ) (p : Place) (x : List ℕ) where
  pub laid_more : (k to : ℕ) (y z : List ℕ) → to ≡ ends (take k codes) p.to → y ≡ laid ws (take k codes) p x → k < length codes
      → z ≡ written y to (form_of (get_or codes k 0) (get_or ws (p.from + k) 0)) → z ≡ laid ws (take (k + 1) codes) p x
  unfolding laid
  laid_more k to y z end so_far below put =
      let so : length (take k codes) ≡ k = length-take-le k codes (omega arith) in
      put
      ∙ ap₂ (λ (u : List ℕ) (n : ℕ). written u n (form_of (get_or codes k 0) (get_or ws (p.from + k) 0))) so_far end
      ∙ ap (λ (n : ℕ). written (laid ws (take k codes) p x) (ends (take k codes) p.to) (form_of (get_or codes k 0) (get_or ws (p.from + n) 0))) (sym so)
      ∙ sym (ap (λ (cs : List ℕ). laid ws cs p x) (next-take codes p k below) ∙ laid-append ws (take k codes) (get_or codes k 0 ∷ []) p x)

  module _ (k : ℕ) (y : List ℕ) (so_far : y ≡ laid ws (take k codes) p x) where
    pub laid-all : length codes ≤ k → y ≡ laid ws codes p x
    laid-all done = so_far ∙ ap (λ (cs : List ℕ). laid ws cs p x) (take_all k codes done)

pub laid_as_long : (ws cs : List ℕ) (p : Place) (x y : List ℕ) → y ≡ laid ws cs p x → length y ≡ length x
laid_as_long ws cs p x y h = ap length h ∙ laid-length ws cs p x
