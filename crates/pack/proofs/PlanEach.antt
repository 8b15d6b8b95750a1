-- Elements that are written by their type's plan, one of them behind another.
-- Assumes nothing.
use Prim.Native.Nat.{ℕ, ◌+◌, ◌≤◌, ◌<◌}
use mathlib.Core.Path.{◌≡◌, refl, sym, subst}
use mathlib.Core.List.{List, []}
use lib.ListN.{length}
use Rattle.walk.specs.declared.Place.{Place}
use Rattle.walk.specs.declared.Walked.{Walked}
use Rattle.walk.specs.declared.Walked.TheVariants.{Went}
use Rattle.walk.specs.Tree.{Tree}
use Rattle.walk.specs.Runs.{runs_tree}
use Rattle.walk.specs.Walk.{answer, walk, Going}
use Rattle.walk.proofs.Turns.{going_next}
use Rattle.pack.specs.Writing.{writer, Writing, tree_written}
use Rattle.pack.specs.ByPlan.{runs_written, stored_runs}
use Rattle.pack.proofs.WriteReturns.{writer_keeps}
use Rattle.pack.proofs.PlanStores.{written-did, word_there}

-- one that was judged and stored
module _ (ws t rs : List ℕ) (p q : Place) (v : Walked) (judged : v ≡ answer (walk (writer ws) (runs_tree t rs) p [])) (went : v ≡ Went q) where
  pub each_from : Writing ws p → p.from ≤ q.from
  each_from h = (word_there ws t rs p v judged (Went q) went h).0

  pub each-most : Writing ws p → q.from ≤ length ws
  each-most h = (word_there ws t rs p v judged (Went q) went h).1

  pub each_next : {n first k : ℕ} {o : Place} {x y z : List ℕ} → Going (Writing ws) (runs_written ws t rs) n first o x k p y → k < n
      → z ≡ stored_runs ws rs p q.from y → Going (Writing ws) (runs_written ws t rs) n first o x (k + 1) q z
  each_next {n} {first} {k} {o} {x} {y} {z} g less h =
      going_next g (Went q) z q ((writer_keeps ws).walks (runs_tree t rs) p y g.here) less (written-did ws t rs p v judged (Went q) went y z h) refl

-- over a tree that is another
pub going_as : {P : Place → Type 0} (ws : List ℕ) (tr u : Tree) → u ≡ tr → {n k : ℕ} {p : Place} {x : List ℕ} {j : ℕ} {q : Place} {y : List ℕ}
    → Going P (tree_written ws tr) n k p x j q y → Going P (tree_written ws u) n k p x j q y
going_as {P} ws tr u e {n} {k} {p} {x} {j} {q} {y} g = subst (λ (a : Tree). Going P (tree_written ws a) n k p x j q y) (sym e) g
