-- What a walk over the runs of a plan leaves: what is stored of them up to the word that it came to.
-- Assumes nothing.
use Prim.Native.Nat.{ℕ, zero, suc, min, ◌+◌, ◌-◌, ◌*◌, ◌≤◌, ◌<◌}
use mathlib.Core.Path.{◌≡◌, refl, sym, ap, ap₂, ◌∙◌}
use mathlib.Core.Bool.{Bool, true, false, ◌&&◌, cond}
use mathlib.Core.Logic.{⊎_elim}
use mathlib.Core.List.{List, [], ◌∷◌}
use native.Mathlib.Nat.{eq-or-lt_of_le}
use native.Mathlib.Numerals.{add-one}
use native.Mathlib.Omega.{arith}
use lib.Dec.{ltb, leb}
use lib.ListN.{length, get_or, drop, drop_of_length-le}
use lib.Seq.{drop-cons}
use Rattle.table.specs.Leaf.{width, allowed}
use Rattle.leaf.specs.Forms.{form_of}
use Rattle.walk.specs.declared.Place.{Place}
use Rattle.walk.specs.declared.Walked.{Walked}
use Rattle.walk.specs.declared.Walked.TheVariants.{Went, Stopped}
use Rattle.walk.specs.Walk.{Step, on, stop, answer, left, next, through}
use Rattle.walk.specs.Runs.{code_in, many_in, taken_by, runs_tree}
use Rattle.walk.proofs.Walks.{Holds, walk-holds, walk_same}
use Rattle.walk.proofs.Returns.{Did, item-short, item-bad, item_on}
use Rattle.pack_leaves.specs.StoredRuns.{behind_all, stored_all}
use Rattle.pack.specs.Writing.{writer, Writing}
use Rattle.pack.specs.ByPlan.{stored_runs}
use Rattle.pack_leaves.proofs.Laid.{put_behind}
use Rattle.pack_leaves.proofs.StoredRuns.{length_all}
use Rattle.pack.proofs.JudgedRuns.{none_yet, one_more, all_stored, writing-run}
use Rattle.pack.proofs.WriteReturns.{writer_keeps}
use Rattle.pack.proofs.PlanWalks.{overRun, overRuns, leafStep, run-leaves, no_run, first_run}

-- the word that a walk came to
abbrev pub word_of : Walked → ℕ
word_of (Went q) = q.from
word_of (Stopped n q) = q.from

-- a walk over n leaves of one code has passed all of them, or stopped at one
pub data RunEnds (ws : List ℕ) (code : ℕ) (p : Place) (x : List ℕ) (n : ℕ) (st : Step) : Type 0 where
  whole : st ≡ on (behind_all code p n) (stored_all ws code p n x) → RunEnds ws code p x n st
  part : (j m : ℕ) → j ≤ n → st ≡ stop m (behind_all code p j) (stored_all ws code p j x) → RunEnds ws code p x n st

module _ (ws t : List ℕ) where
  ends_so : (w : ℕ) (p : Place) (x : List ℕ) (n : ℕ) → RunEnds ws (code_in w) p x n (through n (leafStep ws t w) p x)
  unfolding through next stored_all writer
  ends_so w p x zero = whole (none_yet ws (code_in w) p x)
  ends_so w p x (suc n) = go (ends_so w p x n)
    where
      go : RunEnds ws (code_in w) p x n (through n (leafStep ws t w) p x) → RunEnds ws (code_in w) p x (suc n) (through (suc n) (leafStep ws t w) p x)
      go (part j m l e) = part j m (omega arith) (ap (λ (st : Step). next st (leafStep ws t w n)) e)
      go (whole e) = at (ltb (p.from + n) (length ws)) (allowed (code_in w) (get_or ws (p.from + n) 0) && taken_by t w (get_or ws (p.from + n) 0)) refl refl
        where
          step : (st : Step) → leafStep ws t w n (behind_all (code_in w) p n) (stored_all ws (code_in w) p n x) ≡ st → through (suc n) (leafStep ws t w) p x ≡ st
          step st h = ap (λ (u : Step). next u (leafStep ws t w n)) e ∙ h

          at : (a b : Bool) → ltb (p.from + n) (length ws) ≡ a
              → (allowed (code_in w) (get_or ws (p.from + n) 0) && taken_by t w (get_or ws (p.from + n) 0)) ≡ b
              → RunEnds ws (code_in w) p x (suc n) (through (suc n) (leafStep ws t w) p x)
          at true true g h =
              whole (step (on (behind_all (code_in w) p (suc n)) (stored_all ws (code_in w) p (suc n) x))
              (item_on (writer ws) 42 (code_in w) (taken_by t w) (behind_all (code_in w) p n) (stored_all ws (code_in w) p n x) g h
              ∙ one_more ws (code_in w) p x n (stored_all ws (code_in w) p (suc n) x)))
          at true false g h =
              part n 42 (omega arith) (step (stop 42 (behind_all (code_in w) p n) (stored_all ws (code_in w) p n x))
              (item-bad (writer ws) 42 (code_in w) (taken_by t w) (behind_all (code_in w) p n) (stored_all ws (code_in w) p n x) g h))
          at false b g h =
              part n 40 (omega arith) (step (stop 40 (behind_all (code_in w) p n) (stored_all ws (code_in w) p n x))
              (item-short (writer ws) 42 (code_in w) (taken_by t w) (behind_all (code_in w) p n) (stored_all ws (code_in w) p n x) g))

  pub run_ends : (w : ℕ) (p : Place) (x : List ℕ) → RunEnds ws (code_in w) p x (many_in w) (overRun ws t w p x)
  unfolding stored_all
  run_ends w p x = rw (run-leaves ws t w p x) (ends_so w p x (many_in w))

-- nothing is stored from the word on up to which it is
module _ (ws : List ℕ) where
  pub none_more : (rs : List ℕ) (p : Place) (upto : ℕ) (x : List ℕ) → upto ≤ p.from → stored_runs ws rs p upto x ≡ x
  unfolding stored_runs stored_all
  none_more [] p upto x h = refl
  none_more (w ∷ rs) p upto x h =
      let e : min (many_in w) (upto - p.from) ≡ 0 = omega arith in
      ap (λ (m : ℕ). stored_runs ws rs (behind_all (code_in w) p (many_in w)) upto (stored_all ws (code_in w) p m x)) e
      ∙ none_more rs (behind_all (code_in w) p (many_in w)) upto x (omega arith)

  -- nor where there is no room
  all-outside : (code : ℕ) (p : Place) (n : ℕ) (x : List ℕ) → length x ≤ p.to → stored_all ws code p n x ≡ x
  unfolding stored_all
  all-outside code p zero x h = refl
  all-outside code p (suc n) x h =
      let y : List ℕ = stored_all ws code p n x in
      let m : ℕ = n * width code in
      sym (put_behind y (p.to + m) (form_of code (get_or ws (p.from + n) 0)) (omega (arith, length_all ws code p x n))) ∙ all-outside code p n x h

  pub runs-outside : (rs : List ℕ) (p : Place) (upto : ℕ) (x : List ℕ) → length x ≤ p.to → x ≡ stored_runs ws rs p upto x
  unfolding stored_runs
  runs-outside [] p upto x h = refl
  runs-outside (w ∷ rs) p upto x h =
      let m : ℕ = many_in w * width (code_in w) in
      runs-outside rs (behind_all (code_in w) p (many_in w)) upto x (omega arith)
      ∙ ap (stored_runs ws rs (behind_all (code_in w) p (many_in w)) upto) (sym (all-outside (code_in w) p (min (many_in w) (upto - p.from)) x h))

  -- one run, and the rest behind as many of its leaves as were stored
  one_run : (w : ℕ) (rs : List ℕ) (p : Place) (upto : ℕ) (x : List ℕ) (m : ℕ) → m ≡ min (many_in w) (upto - p.from) → p.from ≤ upto
      → stored_runs ws rs (behind_all (code_in w) p m) upto (stored_all ws (code_in w) p m x) ≡ stored_runs ws (w ∷ rs) p upto x
  unfolding stored_runs
  one_run w rs p upto x m e l =
      ⊎_elim
      (λ (h : m ≡ many_in w).
      ap (λ (n : ℕ). stored_runs ws rs (behind_all (code_in w) p n) upto (stored_all ws (code_in w) p m x)) h
      ∙ ap (λ (n : ℕ). stored_runs ws rs (behind_all (code_in w) p (many_in w)) upto (stored_all ws (code_in w) p n x)) e)
      (λ (h : m < many_in w).
      none_more rs (behind_all (code_in w) p m) upto (stored_all ws (code_in w) p m x) (omega arith)
      ∙ sym (none_more rs (behind_all (code_in w) p (many_in w)) upto (stored_all ws (code_in w) p m x) (omega arith))
      ∙ ap (λ (n : ℕ). stored_runs ws rs (behind_all (code_in w) p (many_in w)) upto (stored_all ws (code_in w) p n x)) e)
      (eq-or-lt_of_le (omega arith))

-- what a walk leaves
module _ (ws t : List ℕ) where
  not_back : (rs : List ℕ) (p : Place) (x : List ℕ) → p.from ≤ word_of (answer (overRuns ws t rs p x))
  unfolding answer writer
  not_back rs p x =
      go (overRuns ws t rs p x) (walk-holds (λ q y. p.from ≤ q.from) (writer ws) (λ code q y a b h. omega arith) (runs_tree t rs) p x (omega arith))
    where
      go : (st : Step) → Holds (λ q y. p.from ≤ q.from) st → p.from ≤ word_of (answer st)
      go (on q y) h = h
      go (stop n q y) h = h

  pub stored_is : (rs : List ℕ) (p : Place) (x : List ℕ) → left (overRuns ws t rs p x) ≡ stored_runs ws rs p (word_of (answer (overRuns ws t rs p x))) x
  unfolding answer left stored_runs next
  stored_is [] p x = ap left (no_run ws t p x)
  stored_is (w ∷ rs) p x = go (λ q y. stored_is rs q y) (run_ends ws t w p x)
    where
      goal : (st : Step) → overRuns ws t (w ∷ rs) p x ≡ st → left st ≡ stored_runs ws (w ∷ rs) p (word_of (answer st)) x → left (overRuns ws t (w ∷ rs) p x)
          ≡ stored_runs ws (w ∷ rs) p (word_of (answer (overRuns ws t (w ∷ rs) p x))) x
      goal st e h = rw e h

      go : ((q : Place) (y : List ℕ) → left (overRuns ws t rs q y) ≡ stored_runs ws rs q (word_of (answer (overRuns ws t rs q y))) y)
          → RunEnds ws (code_in w) p x (many_in w) (overRun ws t w p x) → left (overRuns ws t (w ∷ rs) p x)
          ≡ stored_runs ws (w ∷ rs) p (word_of (answer (overRuns ws t (w ∷ rs) p x))) x
      go rest (whole e) =
          let q : Place = behind_all (code_in w) p (many_in w) in
          let y : List ℕ = stored_all ws (code_in w) p (many_in w) x in
          let u : ℕ = word_of (answer (overRuns ws t rs q y)) in
          let l : many_in w ≡ min (many_in w) (u - p.from) = omega (arith, not_back rs q y) in
          goal (overRuns ws t rs q y) (first_run ws t w rs p x ∙ ap (λ (st : Step). next st (λ o z. overRuns ws t rs o z)) e)
          (rest q y ∙ one_run ws w rs p u x (many_in w) l (omega (arith, not_back rs q y)))
      go rest (part j m l e) =
          let k : j ≡ min (many_in w) (p.from + j - p.from) = omega arith in
          goal (stop m (behind_all (code_in w) p j) (stored_all ws (code_in w) p j x))
          (first_run ws t w rs p x ∙ ap (λ (st : Step). next st (λ o z. overRuns ws t rs o z)) e)
          (sym (none_more ws rs (behind_all (code_in w) p j) (p.from + j) (stored_all ws (code_in w) p j x) (omega arith))
          ∙ one_run ws w rs p (p.from + j) x j k (omega arith))

  -- judged over no room, and then stored up to the word
  module _ (rs : List ℕ) (p : Place) (v : Walked) (judged : v ≡ answer (overRuns ws t rs p [])) (r : Walked) (same : v ≡ r) where
    is : r ≡ answer (overRuns ws t rs p [])
    is = sym same ∙ judged

    pub written-did : (x y : List ℕ) → y ≡ stored_runs ws rs p (word_of r) x → Did (overRuns ws t rs p x) r y
    written-did x y h =
        let e : r ≡ answer (overRuns ws t rs p x) = is ∙ walk_same (writer ws) (runs_tree t rs) p [] x in
        (e, h ∙ ap (λ (o : Walked). stored_runs ws rs p (word_of o) x) e ∙ sym (stored_is rs p x))

    pub word_there : Writing ws p → (p.from ≤ word_of r) × (word_of r ≤ length ws)
    unfolding answer
    word_there h = (
      omega (arith, not_back rs p [], ap word_of is),
      omega (arith, go (overRuns ws t rs p []) ((writer_keeps ws).walks (runs_tree t rs) p [] h), ap word_of is),
    )
      where
        go : (st : Step) → Holds (λ q y. Writing ws q × (length y ≡ 0)) st → word_of (answer st) ≤ length ws
        go (on q y) g = g.0.1
        go (stop n q y) g = g.0.1

-- the loop over the runs: what is left to store leads to the whole
module _ (ws rs : List ℕ) (upto : ℕ) (all : List ℕ) (k : ℕ) (q : Place) (y : List ℕ) where
  abbrev pub Stores : Type 0
  Stores = stored_runs ws (drop k rs) q upto y ≡ all

  pub stores-end : length rs ≤ k → Stores → y ≡ all
  unfolding stored_runs
  stores-end l h = ap (λ (us : List ℕ). stored_runs ws us q upto y) (sym (drop_of_length-le rs l)) ∙ h

  -- one run more, of which m leaves were stored
  module _ (code n m d : ℕ) (is : code ≡ code_in (get_or rs k 0)) (many : n ≡ many_in (get_or rs k 0)) (least : m ≡ min n (upto - q.from)) (wide : d ≡ width code)
      (before : q.from ≤ upto) (there : upto ≤ length ws) (z : List ℕ)
      (laid : z ≡ cond (leb (q.from + m) (length ws)) (stored_all ws code q m y) y) where
    put : z ≡ stored_all ws code q m y
    put = all_stored ws code q y m z (omega arith) laid

    pub stores-on : k < length rs → Stores → stored_runs ws (drop (k + 1) rs) (record { from = q.from + m; to = q.to + m * d }) upto z ≡ all
    stores-on l h =
        let w : ℕ = get_or rs k 0 in
        let g : m ≡ min (many_in w) (upto - q.from) = omega arith in
        let e : z ≡ stored_all ws (code_in w) q m y = put ∙ ap (λ (c : ℕ). stored_all ws c q m y) is in
        let f : q.to + m * d ≡ q.to + m * width (code_in w) = ap (λ (a : ℕ). q.to + m * a) (wide ∙ ap width is) in
        ap₂ (λ (a : ℕ) (b : ℕ). stored_runs ws (drop a rs) (record { from = q.from + m; to = b }) upto z) (add-one k) f
        ∙ ap (stored_runs ws (drop (suc k) rs) (behind_all (code_in w) q m) upto) e
        ∙ one_run ws w (drop (suc k) rs) q upto y m g before
        ∙ ap (λ (us : List ℕ). stored_runs ws us q upto y) (sym (drop-cons rs k 0 l))
        ∙ h

    module _ (so_far : Writing ws q) where
      pub stores-writing : Writing ws (record { from = q.from + m; to = q.to + m * d })
      stores-writing = writing-run ws code d q m wide (omega arith) so_far
