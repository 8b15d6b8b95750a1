-- The runs of a type have as many leaves as the type, and are no more: the leaves of a type with a plan are the sum over its parts.
-- Assumes nothing.
use Prim.Native.Nat.{ℕ, zero, suc, ◌+◌, ◌*◌, ◌≤◌, ◌<◌}
use mathlib.Core.Path.{◌≡◌, refl, sym, subst, ◌∙◌}
use mathlib.Core.Bool.{Bool, true, false}
use mathlib.Core.List.{List, []}
use mathlib.Core.Logic.{◌⊎◌, inl, inr, ⊎_elim}
use native.Mathlib.Nat.{eq-or-lt_of_le}
use native.Mathlib.Omega.{arith}
use borrow.Author.Tests.{leb-true, ltb-true, ltb-false}
use lib.Dec.{leb, ltb, eqb}
use lib.ListN.{length, get_or}
use Rattle.wire.specs.All.{all_below}
use Rattle.table.specs.declared.Sections.{Sections}
use Rattle.table.specs.declared.Entry.{Entry}
use Rattle.table.specs.Entries.{member_at}
use Rattle.walk.specs.declared.Met.{Met}
use Rattle.walk.specs.declared.Met.TheVariants.{Leaf, Members, Elements, Broken}
use Rattle.walk.specs.Tree.{look}
use Rattle.walk.specs.Runs.{many_in}
use Rattle.plan.specs.Leaves.{sum_below, capped, row_leaves, leaves_met, leaf_counts, leaves}
use Rattle.plan.specs.Layout.{run_word, leaf_run, row_runs, runs_met, runs_where, run_lists, runs}
use Rattle.plan.specs.Members.{has_leaves}
use Rattle.plan.specs.Laying.{many_of}
use Rattle.plan.proofs.Known.{sum_equal, sum_times, made-unknown}
use Rattle.plan.proofs.WhatIsMet.{MetOk, met_ok}
use Rattle.plan.proofs.FlatTypes.{leaves-known, leaves-unknown, runs-known}
use Rattle.plan.proofs.RunCounts.{many_one}
use Rattle.plan.proofs.Rows.{leaves_below, row-many, row-thin}

-- so many leaves, and no more runs
pub record Sized (xs : List ℕ) (n : ℕ) : Type 0 where
  pub many : many_of xs ≡ n
  pub thin : length xs ≤ n

pub no_size : Sized [] 0
unfolding many_of
no_size = record { many = refl; thin = omega arith }

-- capped, or added up
pub capped_is : (n : ℕ) → (capped n ≡ 0) ⊎ ((capped n ≡ n) × (n ≤ 512))
unfolding capped
capped_is n = go (leb n 512) refl
  where
    go : (b : Bool) → leb n 512 ≡ b → (capped n ≡ 0) ⊎ ((capped n ≡ n) × (n ≤ 512))
    go true e = inr (rw e refl, leb-true n 512 e)
    go false e = inl (rw e refl)

pub row_is : (f : ℕ → ℕ) (n : ℕ) → (row_leaves f n ≡ 0) ⊎ ((row_leaves f n ≡ sum_below f n) × (sum_below f n ≤ 512))
unfolding row_leaves
row_is f n = go (all_below (has_leaves f) n) refl
  where
    go : (b : Bool) → all_below (has_leaves f) n ≡ b → (row_leaves f n ≡ 0) ⊎ ((row_leaves f n ≡ sum_below f n) × (sum_below f n ≤ 512))
    go true e = rw e (capped_is (sum_below f n))
    go false e = inl (rw e refl)

pub elements_are : (t : List ℕ) (s : Sections) (C : List ℕ) (e : Entry)
    → (leaves_met t s (λ c. get_or C c 0) (Elements e) ≡ 0)
    ⊎ ((leaves_met t s (λ c. get_or C c 0) (Elements e) ≡ sum_below (λ k. get_or C e.of 0) e.count)
    × (sum_below (λ k. get_or C e.of 0) e.count ≤ 512))
unfolding leaves_met
elements_are t s C e = rw (sum_times e.count (get_or C e.of 0)) (go (eqb e.kind 3) refl)
  where
    go : (b : Bool) → eqb e.kind 3 ≡ b → (leaves_met t s (λ c. get_or C c 0) (Elements e) ≡ 0)
        ⊎ ((leaves_met t s (λ c. get_or C c 0) (Elements e) ≡ e.count * get_or C e.of 0) × (e.count * get_or C e.of 0 ≤ 512))
    go true x = rw x (capped_is (e.count * get_or C e.of 0))
    go false x = inl (rw x refl)

-- a row of parts that are so
pub sized_row : (f : ℕ → List ℕ) (g : ℕ → ℕ) (count n : ℕ) → ((k : ℕ) → Sized (f k) (g k))
    → (n ≡ 0) ⊎ ((n ≡ sum_below g count) × (sum_below g count ≤ 512)) → Sized (runs_where n (row_runs f count)) n
unfolding runs_where
sized_row f g count n known which = ⊎_elim none (λ h. some h.0 h.1 (ltb 0 n) refl) which
  where
    none : n ≡ 0 → Sized (runs_where n (row_runs f count)) n
    none e = subst (λ (m : ℕ). Sized (runs_where m (row_runs f count)) m) (sym e) no_size

    some : n ≡ sum_below g count → sum_below g count ≤ 512 → (b : Bool) → ltb 0 n ≡ b → Sized (runs_where n (row_runs f count)) n
    some e h false b = none (omega (arith, ltb-false 0 n b))
    some e h true b =
        let x : leaves_below f count ≡ sum_below g count = sum_equal count (λ k. many_of (f k)) g (λ k l. (known k).many) in
        rw b
        (record {
          many = row-many f count (omega arith) count (omega arith) ∙ x ∙ sym e;
          thin = omega (arith, row-thin f count (λ k l. omega (arith, (known k).many, (known k).thin)) count (omega arith));
        })

-- a leaf: its code fits its field
pub one_leaf : (s : Sections) (e : Entry) → e.of < 256 → many_in (leaf_run s e) ≡ 1
unfolding leaf_run run_word
one_leaf s e h = omega arith

-- what was met, where those of the types before it are so
module _ (t : List ℕ) (s : Sections) (K : List (List ℕ)) (C : List ℕ) (known : (c : ℕ) → Sized (get_or K c []) (get_or C c 0)) where
  pub sized-met : (m : Met) → MetOk s m
      → Sized (runs_where (leaves_met t s (λ c. get_or C c 0) m) (runs_met t s K m)) (leaves_met t s (λ c. get_or C c 0) m)
  unfolding runs_where leaves_met runs_met
  sized-met (Leaf e) ok = record { many = many_one (leaf_run s e) ∙ one_leaf s e ok.code; thin = omega arith }
  sized-met (Members e) ok =
      sized_row (λ k. get_or K (member_at t s (e.first + k)) []) (λ k. get_or C (member_at t s (e.first + k)) 0) e.count
      (row_leaves (λ k. get_or C (member_at t s (e.first + k)) 0) e.count) (λ k. known (member_at t s (e.first + k)))
      (row_is (λ k. get_or C (member_at t s (e.first + k)) 0) e.count)
  sized-met (Elements e) ok =
      sized_row (λ k. get_or K e.of []) (λ k. get_or C e.of 0) e.count (leaves_met t s (λ c. get_or C c 0) (Elements e)) (λ k. known e.of)
      (elements_are t s C e)
  sized-met Broken ok = no_size

-- and so those of all types
module _ (t : List ℕ) (s : Sections) where
  pub runs-unknown : (n c : ℕ) → n ≤ c → get_or (run_lists t s n) c [] ≡ []
  unfolding run_lists runs
  runs-unknown = made-unknown (run_lists t s) (runs t s) refl (λ n. refl) []

  known-size : (n : ℕ) → ((c : ℕ) → c < n → Sized (runs t s c) (leaves t s c)) → (c : ℕ) → Sized (get_or (run_lists t s n) c []) (get_or (leaf_counts t s n) c 0)
  known-size n below c = go (ltb c n) refl
    where
      go : (b : Bool) → ltb c n ≡ b → Sized (get_or (run_lists t s n) c []) (get_or (leaf_counts t s n) c 0)
      go true e = rw (runs-known t s n c (ltb-true c n e), leaves-known t s n c (ltb-true c n e)) (below c (ltb-true c n e))
      go false e = rw (runs-unknown n c (ltb-false c n e), leaves-unknown t s n c (ltb-false c n e)) no_size

  sized-here : (n : ℕ) → ((c : ℕ) → Sized (get_or (run_lists t s n) c []) (get_or (leaf_counts t s n) c 0)) → Sized (runs t s n) (leaves t s n)
  unfolding runs leaves
  sized-here n known = sized-met t s (run_lists t s n) (leaf_counts t s n) known (look t s n) (met_ok t s n)

  sized-below : (n c : ℕ) → c < n → Sized (runs t s c) (leaves t s c)
  sized-below zero c h = absurd (omega arith)
  sized-below (suc n) c h =
      let m : c ≤ n = omega arith in
      ⊎_elim
      (λ (e : c ≡ n). subst (λ (k : ℕ). Sized (runs t s k) (leaves t s k)) (sym e) (sized-here n (known-size n (sized-below n))))
      (λ (g : c < n). sized-below n c g)
      (eq-or-lt_of_le m)

  pub sized : (i : ℕ) → Sized (runs t s i) (leaves t s i)
  sized i = sized-below (suc i) i (omega arith)

  pub sized-known : (n c : ℕ) → Sized (get_or (run_lists t s n) c []) (get_or (leaf_counts t s n) c 0)
  sized-known n = known-size n (λ c h. sized c)
