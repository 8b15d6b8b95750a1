-- A walk over the runs of a plan: run by run, and over one of them leaf by leaf.
-- Assumes nothing.
use Prim.Native.Nat.{ℕ, zero, suc, ◌+◌, ◌*◌, ◌≤◌, ◌<◌}
use mathlib.Core.Path.{◌≡◌, refl, sym, ap, ◌∙◌}
use mathlib.Core.Bool.{true}
use mathlib.Core.List.{List, [], ◌∷◌}
use native.Mathlib.Numerals.{add-one}
use native.Mathlib.Omega.{arith}
use lib.Dec.{ltb}
use lib.ListN.{length, get_or, drop, drop_of_length-le}
use lib.Seq.{drop-cons}
use Rattle.wire.proofs.Cond.{both, and_true}
use Rattle.table.specs.Leaf.{width, allowed}
use Rattle.walk.specs.declared.Place.{Place}
use Rattle.walk.specs.declared.Walked.{Walked}
use Rattle.walk.specs.declared.Walked.TheVariants.{Went, Stopped}
use Rattle.walk.specs.Walk.{Step, on, stop, answer, left, next, through, item, walk}
use Rattle.walk.specs.Runs.{code_in, many_in, taken_by, run_tree, runs_tree}
use Rattle.walk.proofs.Walks.{went, stopped, walk_same}
use Rattle.walk.proofs.Returns.{item_on, kept_on}
use Rattle.pack_leaves.specs.Stored.{is_there, behind, stored}
use Rattle.pack_leaves.specs.StoredRuns.{behind_all, stored_all}
use Rattle.pack.specs.Writing.{writer, Writing}
use Rattle.pack.specs.ByPlan.{RunTaken}
use Rattle.pack.proofs.JudgedRuns.{run_on, writing-run}
use Rattle.pack.proofs.WriteReturns.{writer_keeps}

-- one thing behind another, from the first on
next_on : (st : Step) → next st (λ q y. on q y) ≡ st
unfolding next
next_on (on p x) = refl
next_on (stop n p x) = refl

next_next : (st : Step) (f g : Place → List ℕ → Step) → next (next st f) g ≡ next st (λ q y. next (f q y) g)
unfolding next
next_next (on p x) f g = refl
next_next (stop n p x) f g = refl

through_first : (n : ℕ) (f : ℕ → Place → List ℕ → Step) (p : Place) (x : List ℕ) → through (suc n) f p x
    ≡ next (f 0 p x) (λ q y. through n (λ k. f (suc k)) q y)
unfolding through next
through_first zero f p x = sym (next_on (f 0 p x))
through_first (suc n) f p x =
    ap (λ (st : Step). next st (f (suc n))) (through_first n f p x)
    ∙ next_next (f 0 p x) (λ q y. through n (λ k. f (suc k)) q y) (f (suc n))

-- which is the same wherever it stopped
went_next : (st : Step) (f : Place → List ℕ → Step) (q : Place) → Went q ≡ answer st → next st f ≡ f q (left st)
unfolding next
went_next st f q h = ap (λ (u : Step). next u f) (went st q h)

stopped_next : (st : Step) (f : Place → List ℕ → Step) (n : ℕ) (q : Place) → Stopped n q ≡ answer st → Stopped n q ≡ answer (next st f)
unfolding next answer
stopped_next st f n q h = sym (ap (λ (u : Step). answer (next u f)) (stopped st n q h))

module _ (ws t : List ℕ) where
  -- the walks, and a leaf's step
  abbrev pub overRun : ℕ → Place → List ℕ → Step
  overRun w p x = walk (writer ws) (run_tree t w) p x

  abbrev pub overRuns : List ℕ → Place → List ℕ → Step
  overRuns rs p x = walk (writer ws) (runs_tree t rs) p x

  abbrev pub leafStep : ℕ → ℕ → Place → List ℕ → Step
  leafStep w k q y = item (writer ws) 42 (code_in w) (taken_by t w) q y

  pub run-leaves : (w : ℕ) (p : Place) (x : List ℕ) → overRun w p x ≡ through (many_in w) (leafStep w) p x
  unfolding walk run_tree
  run-leaves w p x = refl

  pub no_run : (p : Place) (x : List ℕ) → overRuns [] p x ≡ on p x
  unfolding walk runs_tree through
  no_run p x = refl

  pub first_run : (w : ℕ) (rs : List ℕ) (p : Place) (x : List ℕ) → overRuns (w ∷ rs) p x ≡ next (overRun w p x) (λ q y. overRuns rs q y)
  unfolding walk runs_tree
  first_run w rs p x = through_first (length rs) (λ k q y. walk (writer ws) (run_tree t (get_or (w ∷ rs) k 0)) q y) p x

  -- a leaf that is there and taken
  pub leaf_on : (w k : ℕ) (q : Place) (y : List ℕ) → is_there ws (code_in w) q.from ≡ true → taken_by t w (get_or ws q.from 0) ≡ true
      → leafStep w k q y ≡ on (behind (code_in w) q) (stored ws (code_in w) q y)
  unfolding is_there writer
  leaf_on w k q y h g =
      let d : (ltb q.from (length ws) ≡ true)
      × (allowed (code_in w) (get_or ws q.from 0) ≡ true) = both (ltb q.from (length ws)) (allowed (code_in w) (get_or ws q.from 0)) h in
      item_on (writer ws) 42 (code_in w) (taken_by t w) q y d.0
      (and_true (allowed (code_in w) (get_or ws q.from 0)) (taken_by t w (get_or ws q.from 0)) d.1 g)

  -- a run whose words are all taken
  pub taken-run : (w : ℕ) (p : Place) (x : List ℕ) → RunTaken ws t w p.from → overRun w p x
      ≡ on (behind_all (code_in w) p (many_in w)) (stored_all ws (code_in w) p (many_in w) x)
  taken-run w p x r =
      run-leaves w p x
      ∙ run_on ws (code_in w) p x (many_in w) (leafStep w)
      (λ k y l. leaf_on w k (behind_all (code_in w) p k) y (r.there k l) (r.taken k l))

  -- so far: what is left to walk over answers as the whole
  abbrev pub Leads : List ℕ → Walked → ℕ → Place → Type 0
  Leads rs all k q = answer (overRuns (drop k rs) q []) ≡ all

  module _ (rs : List ℕ) (all : Walked) (k : ℕ) (q : Place) where
    this-run : k < length rs → overRuns (drop k rs) q [] ≡ next (overRun (get_or rs k 0) q []) (λ o y. overRuns (drop (k + 1) rs) o y)
    this-run l =
        ap (λ (us : List ℕ). overRuns us q []) (drop-cons rs k 0 l)
        ∙ first_run (get_or rs k 0) (drop (suc k) rs) q []
        ∙ ap (λ (m : ℕ). next (overRun (get_or rs k 0) q []) (λ o y. overRuns (drop m rs) o y)) (sym (add-one k))

    pub leads-went : (o : Place) → k < length rs → Leads rs all k q → Went o ≡ answer (overRun (get_or rs k 0) q []) → Leads rs all (k + 1) o
    leads-went o l h g =
        let y : List ℕ = left (overRun (get_or rs k 0) q []) in
        walk_same (writer ws) (runs_tree t (drop (k + 1) rs)) o [] y
        ∙ sym (ap answer (this-run l ∙ went_next (overRun (get_or rs k 0) q []) (λ o y. overRuns (drop (k + 1) rs) o y) o g))
        ∙ h

    pub leads-stop : (n : ℕ) (o : Place) → k < length rs → Leads rs all k q → Stopped n o ≡ answer (overRun (get_or rs k 0) q []) → Stopped n o ≡ all
    leads-stop n o l h g =
        stopped_next (overRun (get_or rs k 0) q []) (λ o y. overRuns (drop (k + 1) rs) o y) n o g ∙ sym (ap answer (this-run l)) ∙ h

    pub leads-end : length rs ≤ k → Leads rs all k q → Went q ≡ all
    unfolding answer
    leads-end l h = sym (ap (λ (us : List ℕ). answer (overRuns us q [])) (drop_of_length-le rs l) ∙ ap answer (no_run q [])) ∙ h

    -- by the run's words, all of which are taken
    module _ (r : RunTaken ws t (get_or rs k 0) q.from) (code n w : ℕ) (is : code ≡ code_in (get_or rs k 0)) (many : n ≡ many_in (get_or rs k 0))
        (wide : w ≡ width code) where
      pub leads-on : k < length rs → Leads rs all k q → Leads rs all (k + 1) (record { from = q.from + n; to = q.to + n * w })
      unfolding answer
      leads-on l h =
          leads-went (record { from = q.from + n; to = q.to + n * w }) l h
          (rw (many, wide, is) (sym (ap answer (taken-run (get_or rs k 0) q [] r))))

      inside : q.from + n ≤ length ws
      inside = omega (arith, r.inside)

      pub taken-writing : Writing ws q → Writing ws (record { from = q.from + n; to = q.to + n * w })
      taken-writing so_far = writing-run ws code w q n wide inside so_far

  pub run-keeps : (w : ℕ) (p q : Place) (x : List ℕ) (r : Walked) → Writing ws p → r ≡ answer (overRun w p x) → r ≡ Went q → Writing ws q
  run-keeps w p q x r h e g =
      kept_on (Writing ws) (length x) (overRun w p x) ((writer_keeps ws).walks (run_tree t w) p x h) r (left (overRun w p x)) (e, refl) q g
