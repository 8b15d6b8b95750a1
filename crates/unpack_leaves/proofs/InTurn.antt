-- Leaves of a list of base codes, one behind another: two such lists, and what a walk over them comes to.
-- Assumes nothing.
use Prim.Native.Nat.{ℕ, suc, ◌+◌, ◌≤◌}
use mathlib.Core.Path.{◌≡◌, refl, sym, ap, ◌∙◌}
use mathlib.Core.Bool.{true}
use mathlib.Core.List.{List, [], ◌∷◌, ◌++◌}
use native.Mathlib.Nat.{add-zero}
use native.Mathlib.Omega.{arith}
use lib.ListN.{length, get_or, take}
use lib.Seq.{length-take-le, get_or-take}
use Rattle.wire.proofs.Cond.{and_true, and_left, and_right}
use Rattle.table.specs.Leaf.{width}
use Rattle.walk.specs.declared.Place.{Place}
use Rattle.walk.specs.Walk.{Step, on, through}
use Rattle.walk.proofs.Walks.{through-more}
use Rattle.unpack_leaves.specs.Leaves.{is_there, behind, stored, ends, all_there, laid, past}
use Rattle.unpack_leaves.specs.Steps.{ReadsCodes}

-- two lists of codes, one behind the other
pub ends_append : (a c : List ℕ) (from : ℕ) → ends (a ++ c) from ≡ ends c (ends a from)
unfolding ends
ends_append [] c from = refl
ends_append (h ∷ a) c from = ends_append a c (from + width h)

module _ (b : List ℕ) where
  pub there-append : (a c : List ℕ) (from : ℕ) → all_there b a from ≡ true → all_there b c (ends a from) ≡ true → all_there b (a ++ c) from ≡ true
  unfolding ends all_there
  there-append [] c from h g = g
  there-append (k ∷ a) c from h g =
      and_true (is_there b k from) (all_there b (a ++ c) (from + width k)) (and_left (is_there b k from) (all_there b a (from + width k)) h)
      (there-append a c (from + width k) (and_right (is_there b k from) (all_there b a (from + width k)) h) g)

  pub laid-append : (a c : List ℕ) (p : Place) (x : List ℕ) → laid b (a ++ c) p x ≡ laid b c (past a p) (laid b a p x)
  unfolding ends laid
  laid-append [] c p x = ap (λ (n : ℕ). laid b c (record { from = p.from; to = n }) x) (sym (add-zero p.to))
  laid-append (k ∷ a) c p x =
      let e : p.to + 1 + length a ≡ p.to + suc (length a) = omega arith in
      laid-append a c (behind k p) (stored b k p x)
      ∙ ap (λ (n : ℕ). laid b c (record { from = ends a (p.from + width k); to = n }) (laid b a (behind k p) (stored b k p x))) e

  -- a walk that reads leaves of these codes goes over them
  pub codes-on : (f : ℕ → Place → List ℕ → Step) (p₀ : Place) (x₀ : List ℕ) (cs : List ℕ) (m : ℕ) (p : Place) (x : List ℕ)
      → ReadsCodes b cs m f → all_there b cs p.from ≡ true → through m f p₀ x₀ ≡ on p x → through (m + length cs) f p₀ x₀ ≡ on (past cs p) (laid b cs p x)
  unfolding ends all_there laid
  codes-on f p₀ x₀ [] m p x reads there so_far =
      ap (λ (n : ℕ). through n f p₀ x₀) (add-zero m) ∙ so_far ∙ ap (λ (n : ℕ). on (record { from = p.from; to = n }) x) (sym (add-zero p.to))
  codes-on f p₀ x₀ (c ∷ cs) m p x reads there so_far =
      let h : is_there b c p.from ≡ true = and_left (is_there b c p.from) (all_there b cs (p.from + width c)) there in
      let g : all_there b cs (p.from + width c) ≡ true = and_right (is_there b c p.from) (all_there b cs (p.from + width c)) there in
      let one : through (m + 1) f p₀ x₀ ≡ on (behind c p) (stored b c p x) = through-more f p₀ x₀ m p x so_far
      ∙ ap (λ (n : ℕ). f n p x) (sym (add-zero m)) ∙ reads 0 p x (omega arith) h in
      let u : m + suc (length cs) ≡ m + 1 + length cs = omega arith in
      let v : p.to + 1 + length cs ≡ p.to + suc (length cs) = omega arith in
      ap (λ (n : ℕ). through n f p₀ x₀) u
      ∙ codes-on f p₀ x₀ cs (m + 1) (behind c p) (stored b c p x) (λ j q y l i. ap (λ (n : ℕ). f n q y) (omega arith) ∙ reads (suc j) q y (omega arith) i) g one
      ∙ ap (λ (n : ℕ). on (record { from = ends cs (p.from + width c); to = n }) (laid b cs (behind c p) (stored b c p x))) v

-- fewer of the codes
pub fewer_read : (b cs : List ℕ) (m c : ℕ) (f : ℕ → Place → List ℕ → Step) → c ≤ length cs → ReadsCodes b cs m f → ReadsCodes b (take c cs) m f
fewer_read b cs m c f h reads j q y less there =
    let l : length (take c cs) ≡ c = length-take-le c cs h in
    let e : get_or (take c cs) j 0 ≡ get_or cs j 0 = get_or-take c cs j 0 (omega arith) in
    rw e (reads j q y (omega arith) (rw e at there))
