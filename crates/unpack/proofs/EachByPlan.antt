-- Elements that are read by their type's plan, one of them behind another.
-- Assumes nothing.
use Prim.Native.Nat.{ℕ, ◌+◌, ◌≤◌, ◌<◌}
use mathlib.Core.Path.{◌≡◌, refl, sym, subst}
use mathlib.Core.List.{List, []}
use lib.ListN.{length}
use Rattle.walk.specs.declared.Place.{Place}
use Rattle.walk.specs.declared.Walked.{Walked}
use Rattle.walk.specs.declared.Walked.TheVariants.{Went}
use Rattle.walk.specs.Tree.{Tree}
use Rattle.walk.specs.Runs.{runs_tree}
use Rattle.walk.specs.Walk.{answer, walk, Going}
use Rattle.walk.proofs.Turns.{going_next}
use Rattle.unpack.specs.Reading.{reader, Reading, tree_read}
use Rattle.unpack.specs.RunByRun.{runs_read, words_of, stored_upto, Within}
use Rattle.unpack.proofs.ReadReturns.{reader_keeps}
use Rattle.unpack.proofs.Upto.{upto_from, upto-in, upto_left, same_answer}

-- one that was judged and stored
module _ (b t runs : List ℕ) (p q : Place) (r : Walked) (walks : r ≡ answer (walk (reader b) (runs_tree t runs) p [])) (went : r ≡ Went q) where
  its-words : q.to ≡ words_of r
  unfolding words_of
  its-words = rw went refl

  pub each_from : p.to ≤ q.to
  each_from = upto_from b t runs p r q.to walks its-words

  pub each_in : Reading b p → Within b runs p q.to
  each_in h = upto-in b t runs p r q.to walks its-words h

  pub each_next : {n first k : ℕ} {o : Place} {x y z : List ℕ} → Going (Reading b) (runs_read b t runs) n first o x k p y → k < n
      → z ≡ stored_upto b runs p q.to (length runs) y → Going (Reading b) (runs_read b t runs) n first o x (k + 1) q z
  each_next {n} {first} {k} {o} {x} {y} {z} g less h =
      going_next g r z q ((reader_keeps b).walks (runs_tree t runs) p y g.here) less
      (same_answer b t runs p r walks y, upto_left b t runs p r q.to walks its-words y z h) went

-- over a tree that is another
pub going_as : {P : Place → Type 0} (b : List ℕ) (tr u : Tree) → u ≡ tr → {n k : ℕ} {p : Place} {x : List ℕ} {j : ℕ} {q : Place} {y : List ℕ}
    → Going P (tree_read b tr) n k p x j q y → Going P (tree_read b u) n k p x j q y
going_as {P} b tr u e {n} {k} {p} {x} {j} {q} {y} g = subst (λ (v : Tree). Going P (tree_read b v) n k p x j q y) (sym e) g
