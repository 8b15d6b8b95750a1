-- Leaves of base codes, one behind another: where their bytes end, that each takes its word, how many do, what is left of the
-- bytes, and what a walk over them comes to.
-- Assumes nothing.
use Prim.Native.Nat.{ℕ, suc, ◌+◌, ◌-◌, ◌*◌, ◌≤◌, ◌<◌}
use mathlib.Core.Path.{◌≡◌, refl, sym, ap, ◌∙◌}
use mathlib.Core.Bool.{Bool, true, false}
use mathlib.Core.List.{List, [], ◌∷◌, ◌++◌}
use native.Mathlib.Nat.{add-zero}
use native.Mathlib.Omega.{arith}
use lib.ListN.{length, get_or, take, length-take}
use lib.Seq.{get_or-take}
use Rattle.wire.proofs.Cond.{both, and_true, yes-if, no-if}
use Rattle.wire.proofs.Runs.{length_written}
use Rattle.table.specs.Leaf.{width}
use Rattle.leaf.specs.Forms.{form_of}
use Rattle.walk.specs.declared.Place.{Place}
use Rattle.walk.specs.Walk.{Step, on, through}
use Rattle.walk.proofs.Walks.{few_bytes, through-more}
use Rattle.pack_leaves.specs.Stored.{is_there, behind, stored, taken_count, ends, all_taken, laid, WritesEach}
use Rattle.pack_leaves.proofs.There.{there-word}
use Rattle.pack_leaves.proofs.Laid.{put_behind}

-- where their bytes end: not before they begin, and at most 8 to a leaf
pub ends_append : (a b : List ℕ) (to : ℕ) → ends (a ++ b) to ≡ ends b (ends a to)
unfolding ends
ends_append [] b to = refl
ends_append (c ∷ a) b to = ends_append a b (to + width c)

pub ends_behind : (cs : List ℕ) (to : ℕ) → to ≤ ends cs to
unfolding ends
ends_behind [] to = omega arith
ends_behind (c ∷ cs) to = omega (arith, ends_behind cs (to + width c))

pub ends_near : (cs : List ℕ) (to : ℕ) → ends cs to ≤ to + 8 * length cs
unfolding ends
ends_near [] to = omega arith
ends_near (c ∷ cs) to = omega (arith, ends_near cs (to + width c), few_bytes c)

-- wherever they begin they have as many bytes
pub ends_from : (cs : List ℕ) (to : ℕ) → ends cs to ≡ to + ends cs 0
unfolding ends
ends_from [] to = sym (add-zero to)
ends_from (c ∷ cs) to = omega (arith, ends_from cs (to + width c), ends_from cs (0 + width c))

module _ (ws : List ℕ) where
  -- two runs of them
  pub taken-append : (a b : List ℕ) (from : ℕ) → all_taken ws a from ≡ true → all_taken ws b (from + length a) ≡ true → all_taken ws (a ++ b) from ≡ true
  unfolding all_taken
  taken-append [] b from g h = ap (λ (n : ℕ). all_taken ws b n) (sym (add-zero from)) ∙ h
  taken-append (c ∷ a) b from g h =
      let d : (is_there ws c from ≡ true) × (all_taken ws a (from + 1) ≡ true) = both (is_there ws c from) (all_taken ws a (from + 1)) g in
      let e : from + 1 + length a ≡ from + suc (length a) = omega arith in
      and_true (is_there ws c from) (all_taken ws (a ++ b) (from + 1)) d.0 (taken-append a b (from + 1) d.1 (ap (λ (n : ℕ). all_taken ws b n) e ∙ h))

  pub laid-append : (a b : List ℕ) (p : Place) (x : List ℕ) → laid ws (a ++ b) p x
      ≡ laid ws b (record { from = p.from + length a; to = ends a p.to }) (laid ws a p x)
  unfolding laid ends
  laid-append [] b p x = ap (λ (n : ℕ). laid ws b (record { from = n; to = p.to }) x) (sym (add-zero p.from))
  laid-append (c ∷ a) b p x =
      let e : p.from + 1 + length a ≡ p.from + suc (length a) = omega arith in
      laid-append a b (behind c p) (stored ws c p x)
      ∙ ap (λ (n : ℕ). laid ws b (record { from = n; to = ends a (p.to + width c) }) (laid ws a (behind c p) (stored ws c p x))) e

  -- one leaf
  pub one-taken : (c from : ℕ) → is_there ws c from ≡ true → all_taken ws (c ∷ []) from ≡ true
  unfolding all_taken
  one-taken c from h = and_true (is_there ws c from) true h refl

  -- the bytes stay as many, and those behind the room's end are not stored
  pub laid-length : (cs : List ℕ) (p : Place) (x : List ℕ) → length (laid ws cs p x) ≡ length x
  unfolding laid
  laid-length [] p x = refl
  laid-length (c ∷ cs) p x = laid-length cs (behind c p) (stored ws c p x) ∙ length_written x p.to (form_of c (get_or ws p.from 0))

  pub laid-outside : (cs : List ℕ) (p : Place) (x : List ℕ) → length x ≤ p.to → laid ws cs p x ≡ x
  unfolding laid
  laid-outside [] p x h = refl
  laid-outside (c ∷ cs) p x h =
      let f : List ℕ = form_of c (get_or ws p.from 0) in
      ap (laid ws cs (behind c p)) (sym (put_behind x p.to f h)) ∙ laid-outside cs (behind c p) x (omega arith)

  -- the leaves that are counted: no more than there are codes, or words, and each takes its word
  pub count-codes : (cs : List ℕ) (from : ℕ) → taken_count ws cs from ≤ length cs
  unfolding taken_count
  count-codes [] from = omega arith
  count-codes (c ∷ cs) from = go (is_there ws c from) refl (count-codes cs (from + 1))
    where
      go : (b : Bool) → is_there ws c from ≡ b → taken_count ws cs (from + 1) ≤ length cs → taken_count ws (c ∷ cs) from ≤ suc (length cs)
      go true e h = omega (arith, yes-if (suc (taken_count ws cs (from + 1))) 0 e)
      go false e h = omega (arith, no-if (suc (taken_count ws cs (from + 1))) 0 e)

  pub count-words : (cs : List ℕ) (from : ℕ) → taken_count ws cs from ≤ length ws - from
  unfolding taken_count
  count-words [] from = omega arith
  count-words (c ∷ cs) from = go (is_there ws c from) refl (count-words cs (from + 1))
    where
      go : (b : Bool) → is_there ws c from ≡ b → taken_count ws cs (from + 1) ≤ length ws - (from + 1) → taken_count ws (c ∷ cs) from ≤ length ws - from
      go true e h = omega (arith, yes-if (suc (taken_count ws cs (from + 1))) 0 e, there-word ws from c true (sym e) refl)
      go false e h = omega (arith, no-if (suc (taken_count ws cs (from + 1))) 0 e)

  pub count-taken : (cs : List ℕ) (from : ℕ) → all_taken ws (take (taken_count ws cs from) cs) from ≡ true
  unfolding taken_count all_taken
  count-taken [] from = refl
  count-taken (c ∷ cs) from = go (is_there ws c from) refl (count-taken cs (from + 1))
    where
      go : (b : Bool) → is_there ws c from ≡ b → all_taken ws (take (taken_count ws cs (from + 1)) cs) (from + 1) ≡ true
          → all_taken ws (take (taken_count ws (c ∷ cs) from) (c ∷ cs)) from ≡ true
      go true e h = rw e (and_true (is_there ws c from) (all_taken ws (take (taken_count ws cs (from + 1)) cs) (from + 1)) e h)
      go false e h = rw e refl

  -- what a walk over them comes to
  pub at_start : (f : ℕ → Place → List ℕ → Step) (m : ℕ) (q : Place) (x : List ℕ) (p : Place) (y : List ℕ) → through m f q x ≡ on p y
      → through (m + 0) f q x ≡ on p y
  at_start f m q x p y h = ap (λ (j : ℕ). through j f q x) (add-zero m) ∙ h

  rest-written : (c : ℕ) (cs : List ℕ) (m : ℕ) (f : ℕ → Place → List ℕ → Step) → WritesEach ws (c ∷ cs) m f → WritesEach ws cs (m + 1) f
  rest-written c cs m f w k q y h t =
      let e : m + 1 + k ≡ m + suc k = omega arith in
      ap (λ (n : ℕ). f n q y) e ∙ w (suc k) q y (omega arith) t

  pub written_over : (cs : List ℕ) (m : ℕ) (f : ℕ → Place → List ℕ → Step) → WritesEach ws cs m f → (p : Place) → all_taken ws cs p.from
      ≡ true → (x : List ℕ) (p₀ : Place) (x₀ : List ℕ) → through m f p₀ x₀ ≡ on p x → through (m + length cs) f p₀ x₀
      ≡ on (record { from = p.from + length cs; to = ends cs p.to }) (laid ws cs p x)
  unfolding all_taken laid ends
  written_over [] m f w p t x p₀ x₀ h =
      at_start f m p₀ x₀ p x h ∙ ap (λ (n : ℕ). on (record { from = n; to = p.to }) x) (sym (add-zero p.from))
  written_over (c ∷ cs) m f w p t x p₀ x₀ h =
      let d : (is_there ws c p.from ≡ true) × (all_taken ws cs (p.from + 1) ≡ true) = both (is_there ws c p.from) (all_taken ws cs (p.from + 1)) t in
      let e : m + suc (length cs) ≡ m + 1 + length cs = omega arith in
      let g : p.from + 1 + length cs ≡ p.from + suc (length cs) = omega arith in
      let o : through (m + 1) f p₀ x₀ ≡ on (behind c p) (stored ws c p x) = through-more f p₀ x₀ m p x h
      ∙ ap (λ (n : ℕ). f n p x) (sym (add-zero m)) ∙ w 0 p x (omega arith) d.0 in
      ap (λ (n : ℕ). through n f p₀ x₀) e
      ∙ written_over cs (m + 1) f (rest-written c cs m f w) (behind c p) d.1 (stored ws c p x) p₀ x₀ o
      ∙ ap (λ (n : ℕ). on (record { from = n; to = ends cs (p.to + width c) }) (laid ws cs (behind c p) (stored ws c p x))) g

  pub fewer-written : (cs : List ℕ) (m : ℕ) (f : ℕ → Place → List ℕ → Step) (j : ℕ) → WritesEach ws cs m f → WritesEach ws (take j cs) m f
  fewer-written cs m f j w k q y h t =
      let l : k < j = omega (arith, length-take j cs) in
      let n : k < length cs = omega (arith, length-take j cs) in
      let e : get_or (take j cs) k 0 ≡ get_or cs k 0 = get_or-take j cs k 0 l in
      w k q y n (ap (λ (c : ℕ). is_there ws c q.from) (sym e) ∙ t) ∙ ap (λ (c : ℕ). on (behind c q) (stored ws c q y)) (sym e)
