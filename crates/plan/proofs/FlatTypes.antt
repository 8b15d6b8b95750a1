-- The runs of a type that has a plan are its leaves: as many, and the walk over them is the walk over its tree.
-- Assumes nothing.
use Prim.Native.Nat.{ℕ, zero, suc, ◌+◌, ◌*◌, ◌≤◌, ◌<◌}
use mathlib.Core.Path.{◌≡◌, refl, sym, ap, ◌∙◌}
use mathlib.Core.Bool.{Bool, true, false}
use mathlib.Core.List.{List, [], ◌∷◌}
use native.Mathlib.Nat.{mul-zero}
use native.Mathlib.Omega.{arith}
use borrow.Author.Tests.{ltb-true, ltb-false, leb-true, lt-ltb}
use lib.Dec.{ltb, leb, eqb}
use lib.ListN.{length, get_or}
use Rattle.wire.specs.All.{all_below}
use Rattle.wire.proofs.AllBelow.{at-below, all-below, stop-below}
use Rattle.table.specs.declared.Sections.{Sections}
use Rattle.table.specs.declared.Entry.{Entry}
use Rattle.table.specs.Entries.{member_at}
use Rattle.leaf.specs.Choice.{choice}
use Rattle.walk.specs.declared.Place.{Place}
use Rattle.walk.specs.declared.Met.{Met}
use Rattle.walk.specs.declared.Met.TheVariants.{Leaf, Members, Elements, Broken}
use Rattle.walk.specs.Tree.{Tree, leaf, row, broken, look, elements_of, tree_of, trees, tree}
use Rattle.walk.specs.Runs.{runs_tree}
use Rattle.walk.specs.Walk.{Codec, walk}
use Rattle.walk.proofs.Trees.{known}
use Rattle.plan.specs.Leaves.{sum_below, capped, row_leaves, leaves_met, leaf_counts, leaves}
use Rattle.plan.specs.Layout.{leaf_run, row_runs, runs_met, runs_where, run_lists, runs}
use Rattle.plan.proofs.Known.{made-known, made-unknown, sum_equal, sum_times}
use Rattle.plan.proofs.FlatWalk.{parts_of, in_turn, parts-in-turn}
use Rattle.plan.proofs.WhatIsMet.{LeafOk, MetOk, met_ok}
use Rattle.plan.proofs.Spread.{spread, spread-walk, length_single, length_parts, spread_row, Some, some_row, some_few}
use Rattle.plan.proofs.LeafRuns.{leaf-many, leaf-walk}

-- runs that are a tree's n leaves
pub record Flat (t : List ℕ) (tr : Tree) (ws : List ℕ) (n : ℕ) : Type 0 where
  pub as_many : length (spread ws) ≡ n
  pub each : Some ws
  pub walks : (c : Codec) (p : Place) (x : List ℕ) → walk c tr p x ≡ in_turn c t (spread ws) p x

-- a row of such
row_flat : (t : List ℕ) (n : ℕ) (h : ℕ → Tree) (g : ℕ → List ℕ) (f : ℕ → ℕ) → ((k : ℕ) → k < n → Flat t (h k) (g k) (f k)) → sum_below f n ≤ 512
    → Flat t (row n h) (row_runs g n) (sum_below f n)
unfolding walk
row_flat t n h g f a b =
    let d : sum_below (λ k. length (spread (g k))) n ≡ sum_below f n = sum_equal n (λ k. length (spread (g k))) f (λ k l. (a k l).as_many) in
    let m : sum_below (λ k. length (spread (g k))) n < 65536 = omega arith in
    let r : spread (row_runs g n) ≡ parts_of (λ k. spread (g k)) n = spread_row g n m in
    record {
      as_many = ap (λ (l : List ℕ). length l) r ∙ length_parts (λ k. spread (g k)) n ∙ d;
      each = some_row g n m (λ k l. (a k l).each);
      walks = λ c p x.
          parts-in-turn c t n (λ k q y. walk c (h k) q y) (λ k. spread (g k)) (λ k l. (a k l).walks c) p x
          ∙ ap (λ (l : List ℕ). in_turn c t l p x) (sym r);
    }

leaf_flat : (t : List ℕ) (s : Sections) (e : Entry) → s.values.count < 65536 → LeafOk s e → Flat t (leaf e.of (choice t s e)) (leaf_run s e ∷ []) 1
leaf_flat t s e few ok =
    record {
      as_many = length_single (leaf_run s e) ∙ leaf-many t s e few ok;
      each = (omega (arith, leaf-many t s e few ok), omega arith);
      walks = leaf-walk t s e few ok;
    }

-- how many leaves a row has, where it has a plan
capped_some : (n : ℕ) → 0 < capped n → (n ≤ 512) × (capped n ≡ n)
unfolding capped
capped_some n h = go (leb n 512) refl
  where
    go : (b : Bool) → leb n 512 ≡ b → (n ≤ 512) × (capped n ≡ n)
    go true e = (leb-true n 512 e, rw e refl)
    go false e = let z : 0 < 0 = rw e at h in absurd (omega arith)

capped_most : (n : ℕ) → capped n ≤ 512
unfolding capped
capped_most n = go (leb n 512) refl
  where
    go : (b : Bool) → leb n 512 ≡ b → capped n ≤ 512
    go true e = rw e (leb-true n 512 e)
    go false e = rw e (omega arith)

pub record RowHas (f : ℕ → ℕ) (n : ℕ) : Type 0 where
  pub some : (k : ℕ) → k < n → 0 < f k
  pub most : sum_below f n ≤ 512
  pub is : row_leaves f n ≡ sum_below f n

pub row_has : (f : ℕ → ℕ) (n : ℕ) → 0 < row_leaves f n → RowHas f n
unfolding row_leaves
row_has f n h = go (all_below (λ k. ltb 0 (f k)) n) refl
  where
    go : (b : Bool) → all_below (λ k. ltb 0 (f k)) n ≡ b → RowHas f n
    go true e =
        let g : 0 < capped (sum_below f n) = rw e at h in
        record {
          some = λ k l. ltb-true 0 (f k) (at-below (λ k. ltb 0 (f k)) n k e l);
          most = (capped_some (sum_below f n) g).0;
          is = rw e (capped_some (sum_below f n) g).1;
        }
    go false e = let z : 0 < 0 = rw e at h in absurd (omega arith)

row_most : (f : ℕ → ℕ) (n : ℕ) → row_leaves f n ≤ 512
unfolding row_leaves
row_most f n = go (all_below (λ k. ltb 0 (f k)) n) refl
  where
    go : (b : Bool) → all_below (λ k. ltb 0 (f k)) n ≡ b → row_leaves f n ≤ 512
    go true e = rw e (capped_most (sum_below f n))
    go false e = rw e (omega arith)

any_most : (t : List ℕ) (s : Sections) (f : ℕ → ℕ) (m : Met) → leaves_met t s f m ≤ 512
unfolding leaves_met
any_most t s f (Leaf e) = omega arith
any_most t s f (Members e) = row_most (λ k. f (member_at t s (e.first + k))) e.count
any_most t s f (Elements e) = go (eqb e.kind 3) refl
  where
    go : (b : Bool) → eqb e.kind 3 ≡ b → leaves_met t s f (Elements e) ≤ 512
    go true k = rw k (capped_most (e.count * f e.of))
    go false k = rw k (omega arith)
any_most t s f Broken = omega arith

-- a row of equal parts
pub same_row : (n a : ℕ) → 1 ≤ n → row_leaves (λ k. a) n ≡ capped (n * a)
unfolding row_leaves capped
same_row n zero h = rw (← stop-below (λ k. ltb 0 0) n 0 false refl refl h, mul-zero n) refl
same_row n (suc a) h = rw (all-below (λ k. ltb 0 (suc a)) n (λ k l. lt-ltb 0 (suc a) (omega arith))) (ap capped (sum_times n (suc a)))

-- runs that have a leaf are some
spread_some : (ws : List ℕ) → 0 < length (spread ws) → 0 < length ws
unfolding spread
spread_some [] h = h
spread_some (w ∷ ws) h = omega arith

module _ (t : List ℕ) (s : Sections) where
  pub leaves-known : (n c : ℕ) → c < n → get_or (leaf_counts t s n) c 0 ≡ leaves t s c
  unfolding leaf_counts leaves
  leaves-known = made-known (leaf_counts t s) (leaves t s) refl (λ n. refl) 0

  pub leaves-unknown : (n c : ℕ) → n ≤ c → get_or (leaf_counts t s n) c 0 ≡ 0
  unfolding leaf_counts leaves
  leaves-unknown = made-unknown (leaf_counts t s) (leaves t s) refl (λ n. refl) 0

  pub runs-known : (n c : ℕ) → c < n → get_or (run_lists t s n) c [] ≡ runs t s c
  unfolding run_lists runs
  runs-known = made-known (run_lists t s) (runs t s) refl (λ n. refl) []

  -- what was met at type i, by those before it
  module _ (i : ℕ) (before : (c : ℕ) → c < i → 0 < leaves t s c → Flat t (tree t s c) (runs t s c) (leaves t s c)) where
    child-flat : (c : ℕ) → 0 < get_or (leaf_counts t s i) c 0
        → Flat t (get_or (trees t s i) c broken) (get_or (run_lists t s i) c []) (get_or (leaf_counts t s i) c 0)
    child-flat c h = go (ltb c i) refl
      where
        go : (b : Bool) → ltb c i ≡ b → Flat t (get_or (trees t s i) c broken) (get_or (run_lists t s i) c []) (get_or (leaf_counts t s i) c 0)
        go true e =
            let l : c < i = ltb-true c i e in
            rw (known t s i c l, runs-known i c l, leaves-known i c l) (before c l (omega (arith, leaves-known i c l)))
        go false e = absurd (omega (arith, leaves-unknown i c (ltb-false c i e)))

    abbrev leavesAt : ℕ → ℕ
    leavesAt c = get_or (leaf_counts t s i) c 0

    -- n parts, each of a type before it
    parts-flat : (n : ℕ) (part : ℕ → ℕ) → 0 < row_leaves (λ k. leavesAt (part k)) n
        → Flat t (row n (λ k. get_or (trees t s i) (part k) broken)) (row_runs (λ k. get_or (run_lists t s i) (part k) []) n) (row_leaves (λ k. leavesAt (part k)) n)
    parts-flat n part h =
        let d = row_has (λ k. leavesAt (part k)) n h in
        rw d.is (row_flat t n (λ k. get_or (trees t s i) (part k) broken) (λ k. get_or (run_lists t s i) (part k) []) (λ k. leavesAt (part k))
        (λ k l. child-flat (part k) (d.some k l)) d.most)

    elements-flat : (e : Entry) → 1 ≤ e.count → 0 < leaves_met t s leavesAt (Elements e)
        → Flat t (tree_of t s (trees t s i) (Elements e)) (runs_met t s (run_lists t s i) (Elements e)) (leaves_met t s leavesAt (Elements e))
    unfolding leaves_met tree_of elements_of runs_met
    elements-flat e l h = go (eqb e.kind 3) refl
      where
        go : (b : Bool) → eqb e.kind 3 ≡ b
            → Flat t (tree_of t s (trees t s i) (Elements e)) (runs_met t s (run_lists t s i) (Elements e)) (leaves_met t s leavesAt (Elements e))
        go true k =
            let a : 0 < capped (e.count * leavesAt e.of) = rw k at h in
            let q : row_leaves (λ k. leavesAt e.of) e.count ≡ capped (e.count * leavesAt e.of) =
            same_row e.count (leavesAt e.of) l in
            rw (k, ← q) (parts-flat e.count (λ k. e.of) (omega arith))
        go false k = let z : 0 < 0 = rw k at h in absurd (omega arith)

    met-flat : s.values.count < 65536 → (m : Met) → MetOk s m → 0 < leaves_met t s leavesAt m
        → Flat t (tree_of t s (trees t s i) m) (runs_met t s (run_lists t s i) m) (leaves_met t s leavesAt m)
    unfolding leaves_met tree_of runs_met
    met-flat few (Leaf e) ok h = leaf_flat t s e few ok
    met-flat few (Members e) ok h = parts-flat e.count (λ k. member_at t s (e.first + k)) h
    met-flat few (Elements e) ok h = elements-flat e ok h
    met-flat few Broken ok h = absurd (omega arith)

    next-flat : s.values.count < 65536 → 0 < leaves t s i → Flat t (tree t s i) (runs t s i) (leaves t s i)
    unfolding leaves tree runs runs_where
    next-flat few h =
        rw (lt-ltb 0 (leaves_met t s leavesAt (look t s i)) h) (met-flat few (look t s i) (met_ok t s i) h)

  module _ (few : s.values.count < 65536) where
    below-flat : (n i : ℕ) → i < n → 0 < leaves t s i → Flat t (tree t s i) (runs t s i) (leaves t s i)
    below-flat zero i l h = absurd (omega arith)
    below-flat (suc n) i l h = next-flat i (λ c g. below-flat n c (omega arith)) few h

    pub type-flat : (i : ℕ) → 0 < leaves t s i → Flat t (tree t s i) (runs t s i) (leaves t s i)
    type-flat i h = below-flat (suc i) i (omega arith) h

    -- the walk over the runs is the walk over the type
    pub runs-walk : (i : ℕ) → 0 < leaves t s i → (c : Codec) (p : Place) (x : List ℕ) → walk c (runs_tree t (runs t s i)) p x ≡ walk c (tree t s i) p x
    runs-walk i h c p x = spread-walk c t (runs t s i) p x ∙ sym ((type-flat i h).walks c p x)

    -- there is one, and no more than leaves
    pub runs-most : (i : ℕ) → 0 < leaves t s i → length (runs t s i) ≤ leaves t s i
    runs-most i h = let f = type-flat i h in omega (arith, some_few (runs t s i) f.each, f.as_many)

    pub runs-some : (i : ℕ) → 0 < leaves t s i → 0 < length (runs t s i)
    runs-some i h = spread_some (runs t s i) (omega (arith, (type-flat i h).as_many))

  -- at most 512 leaves
  pub leaves-most : (i : ℕ) → leaves t s i ≤ 512
  unfolding leaves
  leaves-most i = any_most t s (λ c. get_or (leaf_counts t s i) c 0) (look t s i)
