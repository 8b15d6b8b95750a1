-- The runs of one type, by what was met at its entry.
-- Assumes nothing.
use Prim.Native.Nat.{ℕ, ◌+◌, ◌≤◌, ◌<◌}
use mathlib.Core.Path.{◌≡◌, sym, ap, ◌∙◌}
use mathlib.Core.Bool.{true, false}
use mathlib.Core.List.{List, [], ◌∷◌}
use mathlib.Core.Logic.{◌⊎◌, ⊎_elim}
use native.Mathlib.Omega.{arith}
use lib.ListN.{length, get_or, set}
use Rattle.wire.specs.Bytes.{over}
use Rattle.table.specs.declared.Sections.{Sections}
use Rattle.table.specs.declared.Entry.{Entry}
use Rattle.table.specs.Entries.{member_at}
use Rattle.walk.specs.declared.Met.{Met}
use Rattle.walk.specs.declared.Met.TheVariants.{Leaf, Members, Elements, Broken}
use Rattle.walk.specs.Tree.{look}
use Rattle.plan.specs.Leaves.{sum_below, leaves_met, leaf_counts, leaves}
use Rattle.plan.specs.Layout.{leaf_run, row_runs, runs_met, runs_where, run_lists, runs}
use Rattle.plan.specs.Laying.{part_at, part_runs, Parts, Laid}
use Rattle.wire.proofs.Runs.{set_over, over_none}
use Rattle.wire.proofs.Cond.{yes_lt, no_lt}
use Rattle.plan.proofs.Sized.{row_is, elements_are}
use Rattle.plan.proofs.Types.{row-parts, row-runs}

-- no runs
module _ (l : List ℕ) (end : ℕ) (xs : List ℕ) (none : xs ≡ []) where
  nothing-end : end ≡ end + length xs
  nothing-end = omega (arith, ap length none)

  nothing-held : l ≡ over l end xs
  nothing-held = over_none l end [] ∙ ap (over l end) (sym none)

module _ (t : List ℕ) (s : Sections) (i count : ℕ) (is : count ≡ leaves t s i) (no : count ≡ 0) where
  no_leaves : runs t s i ≡ []
  unfolding runs runs_where
  no_leaves = no_lt _ _ 0 (leaves t s i) (omega arith)

  pub no-plan-end : (end : ℕ) → end ≡ end + length (runs t s i)
  no-plan-end end = nothing-end [] end (runs t s i) no_leaves

  pub no-plan-held : (l : List ℕ) (end : ℕ) → l ≡ over l end (runs t s i)
  no-plan-held l end = nothing-held l end (runs t s i) no_leaves

-- one of two that is not 0
either_sum : (n m : ℕ) → 0 < n → (n ≡ 0) ⊎ ((n ≡ m) × (m ≤ 512)) → (m ≡ n) × (n ≤ 512)
either_sum n m h w = ⊎_elim (λ (e : n ≡ 0). absurd (omega arith)) (λ (e : (n ≡ m) × (m ≤ 512)). (sym e.0, omega (arith, e.0, e.1))) w

module _ (t : List ℕ) (s : Sections) (i : ℕ) (l starts : List ℕ) (end : ℕ) (laid : Laid t s i l starts end) (m : Met) (is : m ≡ look t s i)
    (some : 0 < leaves t s i) where
  its-runs : runs t s i ≡ runs_met t s (run_lists t s i) m
  unfolding runs runs_where
  its-runs = yes_lt _ _ 0 (leaves t s i) some ∙ ap (runs_met t s (run_lists t s i)) (sym is)

  its-leaves : leaves t s i ≡ leaves_met t s (λ c. get_or (leaf_counts t s i) c 0) m
  unfolding leaves
  its-leaves = ap (leaves_met t s (λ c. get_or (leaf_counts t s i) c 0)) (sym is)

  module _ (e : Entry) (h : m ≡ Leaf e) where
    one_run : runs t s i ≡ leaf_run s e ∷ []
    unfolding runs_met
    one_run = its-runs ∙ ap (runs_met t s (run_lists t s i)) h

    pub leaf-end : end + 1 ≡ end + length (runs t s i)
    leaf-end = omega (arith, ap length one_run)

    pub leaf-held : (x : ℕ) → x ≡ leaf_run s e → set l end x ≡ over l end (runs t s i)
    leaf-held x q = ap (set l end) q ∙ set_over l end (leaf_run s e) (omega (arith, laid.room)) ∙ ap (over l end) (sym one_run)

  module _ (e : Entry) (h : m ≡ Members e) where
    member-leaves : (sum_below (λ k. get_or (leaf_counts t s i) (part_at t s e true k) 0) e.count ≡ leaves t s i) × (leaves t s i ≤ 512)
    unfolding leaves_met part_at
    member-leaves =
        let f : ℕ → ℕ = λ k. get_or (leaf_counts t s i) (member_at t s (e.first + k)) 0 in
        either_sum (leaves t s i) (sum_below f e.count) some
        (rw (its-leaves ∙ ap (leaves_met t s (λ c. get_or (leaf_counts t s i) c 0)) h) (row_is f e.count))

    member-runs : runs t s i ≡ row_runs (λ k. get_or (run_lists t s i) (part_at t s e true k) []) e.count
    unfolding runs_met part_at
    member-runs = its-runs ∙ ap (runs_met t s (run_lists t s i)) h

    pub members-parts : Parts (part_runs t s e true l starts i) e.count end l
    members-parts = row-parts t s i l starts end laid e true member-leaves.0 member-leaves.1 member-runs

    members-are : row_runs (part_runs t s e true l starts i) e.count ≡ runs t s i
    members-are = row-runs t s i l starts end laid e true member-leaves.0 member-leaves.1 member-runs

    pub members-end : (r : ℕ) → r ≡ end + length (row_runs (part_runs t s e true l starts i) e.count) → r ≡ end + length (runs t s i)
    members-end r q = q ∙ ap (λ (xs : List ℕ). end + length xs) members-are

    pub members-held : (u : List ℕ) → u ≡ over l end (row_runs (part_runs t s e true l starts i) e.count) → u ≡ over l end (runs t s i)
    members-held u q = q ∙ ap (over l end) members-are

  module _ (e : Entry) (h : m ≡ Elements e) where
    element-leaves : (sum_below (λ k. get_or (leaf_counts t s i) (part_at t s e false k) 0) e.count ≡ leaves t s i) × (leaves t s i ≤ 512)
    unfolding part_at
    element-leaves =
        let f : ℕ → ℕ = λ k. get_or (leaf_counts t s i) e.of 0 in
        either_sum (leaves t s i) (sum_below f e.count) some
        (rw (its-leaves ∙ ap (leaves_met t s (λ c. get_or (leaf_counts t s i) c 0)) h) (elements_are t s (leaf_counts t s i) e))

    element-runs : runs t s i ≡ row_runs (λ k. get_or (run_lists t s i) (part_at t s e false k) []) e.count
    unfolding runs_met part_at
    element-runs = its-runs ∙ ap (runs_met t s (run_lists t s i)) h

    pub elements-parts : Parts (part_runs t s e false l starts i) e.count end l
    elements-parts = row-parts t s i l starts end laid e false element-leaves.0 element-leaves.1 element-runs

    elements-row : row_runs (part_runs t s e false l starts i) e.count ≡ runs t s i
    elements-row = row-runs t s i l starts end laid e false element-leaves.0 element-leaves.1 element-runs

    pub elements-end : (r : ℕ) → r ≡ end + length (row_runs (part_runs t s e false l starts i) e.count) → r ≡ end + length (runs t s i)
    elements-end r q = q ∙ ap (λ (xs : List ℕ). end + length xs) elements-row

    pub elements-held : (u : List ℕ) → u ≡ over l end (row_runs (part_runs t s e false l starts i) e.count) → u ≡ over l end (runs t s i)
    elements-held u q = q ∙ ap (over l end) elements-row

  module _ (h : m ≡ Broken) where
    broken-runs : runs t s i ≡ []
    unfolding runs_met
    broken-runs = its-runs ∙ ap (runs_met t s (run_lists t s i)) h

    pub broken-end : end ≡ end + length (runs t s i)
    broken-end = nothing-end l end (runs t s i) broken-runs

    pub broken-held : l ≡ over l end (runs t s i)
    broken-held = nothing-held l end (runs t s i) broken-runs
