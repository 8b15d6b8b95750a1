-- How many leaves of a list of base codes are there, or have all their bytes: what that says of them, and of the words.
-- Assumes nothing.
use Prim.Native.Nat.{ℕ, zero, suc, ◌+◌, ◌≤◌, ◌<◌}
use mathlib.Core.Path.{◌≡◌, refl, sym, ap, ◌∙◌}
use mathlib.Core.Bool.{Bool, true, false, cond}
use mathlib.Core.List.{List, [], ◌∷◌}
use native.Mathlib.Omega.{arith}
use borrow.Author.Tests.{le-leb, lt-leb}
use lib.Dec.{leb}
use lib.ListN.{length, take}
use lib.Seq.{take-length}
use Rattle.wire.proofs.Cond.{and_left, and_right, and_true}
use Rattle.wire.proofs.Runs.{length_written, written_out}
use Rattle.table.specs.Leaf.{width}
use Rattle.leaf.specs.Forms.{word_at}
use Rattle.walk.specs.declared.Place.{Place}
use Rattle.unpack_leaves.specs.Leaves.{is_there, behind, stored, ends, all_there, laid, there_count, whole_count}
use Rattle.unpack_leaves.proofs.OneLeaf.{there_room, there_some}

module _ (b : List ℕ) where
  -- leaves that are all there: they end within the payload, have a byte each, and all their bytes
  module _ (c : ℕ) (cs : List ℕ) (from : ℕ) (h : all_there b (c ∷ cs) from ≡ true) where
    head-there : is_there b c from ≡ true
    unfolding all_there
    head-there = and_left (is_there b c from) (all_there b cs (from + width c)) h

    tail-there : all_there b cs (from + width c) ≡ true
    unfolding all_there
    tail-there = and_right (is_there b c from) (all_there b cs (from + width c)) h

    head-room : from + width c ≤ length b
    head-room = there_room b from c (is_there b c from) refl head-there

  pub ends_in : (cs : List ℕ) (from : ℕ) → from ≤ length b → all_there b cs from ≡ true → ends cs from ≤ length b
  unfolding ends
  ends_in [] from l h = l
  ends_in (c ∷ cs) from l h = ends_in cs (from + width c) (head-room c cs from h) (tail-there c cs from h)

  pub ends-far : (cs : List ℕ) (from : ℕ) → all_there b cs from ≡ true → from + length cs ≤ ends cs from
  unfolding ends
  ends-far [] from h = omega arith
  ends-far (c ∷ cs) from h =
      omega (arith, there_some b from c (head-there c cs from h), ends-far cs (from + width c) (tail-there c cs from h))

  pub whole-all : (cs : List ℕ) (from : ℕ) → all_there b cs from ≡ true → whole_count b cs from ≡ length cs
  unfolding whole_count
  whole-all [] from h = refl
  whole-all (c ∷ cs) from h =
      rw (le-leb (from + width c) (length b) (head-room c cs from h)) (ap suc (whole-all cs (from + width c) (tail-there c cs from h)))

  -- so storing them leaves the words of all
  pub laid-whole : (cs : List ℕ) (p : Place) (x : List ℕ) → all_there b cs p.from ≡ true → laid b (take (whole_count b cs p.from) cs) p x ≡ laid b cs p x
  laid-whole cs p x h = ap (λ (n : ℕ). laid b (take n cs) p x) (whole-all cs p.from h) ∙ ap (λ (u : List ℕ). laid b u p x) (take-length cs)

  -- as many as are there
  pub there-few : (cs : List ℕ) (from : ℕ) → there_count b cs from ≤ length cs
  unfolding there_count
  there-few [] from = omega arith
  there-few (c ∷ cs) from = go (is_there b c from) (there-few cs (from + width c))
    where
      go : (t : Bool) → there_count b cs (from + width c) ≤ length cs → cond t (suc (there_count b cs (from + width c))) 0 ≤ suc (length cs)
      go true h = omega arith
      go false h = omega arith

  pub there-all : (cs : List ℕ) (from : ℕ) → all_there b (take (there_count b cs from) cs) from ≡ true
  unfolding there_count all_there
  there-all [] from = refl
  there-all (c ∷ cs) from = go (is_there b c from) refl (there-all cs (from + width c))
    where
      go : (t : Bool) → is_there b c from ≡ t → all_there b (take (there_count b cs (from + width c)) cs) (from + width c) ≡ true
          → all_there b (take (cond t (suc (there_count b cs (from + width c))) 0) (c ∷ cs)) from ≡ true
      go true e h = and_true (is_there b c from) (all_there b (take (there_count b cs (from + width c)) cs) (from + width c)) e h
      go false e h = refl

  pub there-ends : (cs : List ℕ) (from : ℕ) → from ≤ length b → ends (take (there_count b cs from) cs) from ≤ length b
  there-ends cs from l = ends_in (take (there_count b cs from) cs) from l (there-all cs from)

  -- past the end of the payload there is none
  pub none_there : (cs : List ℕ) (from : ℕ) → length b < from → there_count b cs from ≡ 0
  unfolding there_count is_there
  none_there [] from l = refl
  none_there (c ∷ cs) from l = rw (lt-leb (from + width c) (length b) (omega arith)) refl

  pub none-whole : (cs : List ℕ) (from : ℕ) → length b < from → whole_count b cs from ≡ 0
  unfolding whole_count
  none-whole [] from l = refl
  none-whole (c ∷ cs) from l = rw (lt-leb (from + width c) (length b) (omega arith)) refl

  -- the words stay as many, and past their end nothing is stored
  pub length-laid : (cs : List ℕ) (p : Place) (x : List ℕ) → length (laid b cs p x) ≡ length x
  unfolding laid
  length-laid [] p x = refl
  length-laid (c ∷ cs) p x = length-laid cs (behind c p) (stored b c p x) ∙ length_written x p.to (word_at c b p.from ∷ [])

  pub laid_out : (cs : List ℕ) (p : Place) (x : List ℕ) → length x ≤ p.to → laid b cs p x ≡ x
  unfolding laid
  laid_out [] p x h = refl
  laid_out (c ∷ cs) p x h =
      let e : stored b c p x ≡ x = written_out x p.to (word_at c b p.from ∷ []) (omega arith) in
      ap (λ (u : List ℕ). laid b cs (behind c p) u) e ∙ laid_out cs (behind c p) x (omega arith)

  -- so the codes for which there is room say all
  pub laid-cut : (cs : List ℕ) (n : ℕ) (p : Place) (x : List ℕ) → (n < length cs → length x ≤ p.to + n)
      → laid b (take (whole_count b (take n cs) p.from) (take n cs)) p x ≡ laid b (take (whole_count b cs p.from) cs) p x
  unfolding laid whole_count
  laid-cut [] zero p x h = refl
  laid-cut [] (suc n) p x h = refl
  laid-cut (c ∷ cs) zero p x h = sym (laid_out (take (whole_count b (c ∷ cs) p.from) (c ∷ cs)) p x (omega (arith, h (omega arith))))
  laid-cut (c ∷ cs) (suc n) p x h =
      go (leb (p.from + width c) (length b))
      (laid-cut cs n (behind c p) (stored b c p x) (λ l. omega (arith, h (omega arith), length_written x p.to (word_at c b p.from ∷ []))))
    where
      m : ℕ
      m = whole_count b (take n cs) (p.from + width c)

      k : ℕ
      k = whole_count b cs (p.from + width c)

      go : (t : Bool) → laid b (take m (take n cs)) (behind c p) (stored b c p x) ≡ laid b (take k cs) (behind c p) (stored b c p x)
          → laid b (take (cond t (suc m) 0) (c ∷ take n cs)) p x ≡ laid b (take (cond t (suc k) 0) (c ∷ cs)) p x
      go true e = e
      go false e = refl
