-- Which types have a plan: those whose tree is flat and has 1 to 512 leaves.
-- Assumes nothing.
use Prim.Native.Nat.{ℕ, zero, suc, ◌+◌, ◌≤◌, ◌<◌}
use mathlib.Core.Path.{◌≡◌, refl, sym, ap}
use mathlib.Core.Bool.{Bool, true, false, ◌&&◌, cond}
use mathlib.Core.List.{List}
use native.Mathlib.Omega.{arith}
use borrow.Author.Tests.{ltb-true, ltb-false, leb-true, lt-ltb, le-leb}
use lib.Dec.{ltb, leb, eqb}
use lib.ListN.{get_or}
use Rattle.wire.specs.All.{all_below}
use Rattle.wire.proofs.Cond.{clash}
use Rattle.wire.proofs.AllBelow.{at-below, all-below, stop-below}
use Rattle.table.specs.declared.Sections.{Sections}
use Rattle.table.specs.declared.Entry.{Entry}
use Rattle.table.specs.Entries.{member_at}
use Rattle.walk.specs.declared.Met.{Met}
use Rattle.walk.specs.declared.Met.TheVariants.{Leaf, Members, Elements, Broken}
use Rattle.walk.specs.Tree.{Tree, leaf, row, array, broken, look, elements_of, tree_of, trees, tree}
use Rattle.walk.proofs.Trees.{known}
use Rattle.plan.specs.Leaves.{sum_below, is_flat, leaf_count, has_plan, capped, row_leaves, leaves_met, leaf_counts, leaves}
use Rattle.plan.proofs.Known.{made-unknown, sum_equal, sum_times, part_most}
use Rattle.plan.proofs.WhatIsMet.{MetOk, met_ok}
use Rattle.plan.proofs.FlatTypes.{same_row, leaves-known, leaves-unknown}

-- n is how many leaves the tree has, and 0 where it is not flat or has too many
pub record Agrees (tr : Tree) (n : ℕ) : Type 0 where
  pub some : is_flat tr ≡ true → 1 ≤ leaf_count tr
  pub is : n ≡ cond (is_flat tr) (capped (leaf_count tr)) 0

agrees_plan : (tr : Tree) (n : ℕ) → Agrees tr n → has_plan tr ≡ ltb 0 n
unfolding has_plan capped
agrees_plan tr n a = go (is_flat tr) (leb (leaf_count tr) 512) refl refl
  where
    go : (b d : Bool) → is_flat tr ≡ b → leb (leaf_count tr) 512 ≡ d → has_plan tr ≡ ltb 0 n
    go true true e g =
        let l : 1 ≤ leaf_count tr = a.some e in
        let m : n ≡ leaf_count tr = rw (e, g) at a.is in
        rw (e, g, le-leb 1 (leaf_count tr) l, lt-ltb 0 n (omega arith)) refl
    go true false e g =
        let l : 1 ≤ leaf_count tr = a.some e in
        let m : n ≡ 0 = rw (e, g) at a.is in
        rw (e, g, le-leb 1 (leaf_count tr) l, m) refl
    go false d e g = let m : n ≡ 0 = rw e at a.is in rw (e, m) refl

-- a tree that has some
agrees_some : (tr : Tree) (n : ℕ) → Agrees tr n → 0 < n → (is_flat tr ≡ true) × (n ≡ leaf_count tr)
unfolding capped
agrees_some tr n a h = go (is_flat tr) (leb (leaf_count tr) 512) refl refl
  where
    go : (b d : Bool) → is_flat tr ≡ b → leb (leaf_count tr) 512 ≡ d → (is_flat tr ≡ true) × (n ≡ leaf_count tr)
    go true true e g = (e, rw (e, g) at a.is)
    go true false e g = let m : n ≡ 0 = rw (e, g) at a.is in absurd (omega arith)
    go false d e g = let m : n ≡ 0 = rw e at a.is in absurd (omega arith)

-- and one whose leaves are few enough has some
agrees_few : (tr : Tree) (n : ℕ) → Agrees tr n → is_flat tr ≡ true → leaf_count tr ≤ 512 → 0 < n
unfolding capped
agrees_few tr n a e h = let m : n ≡ leaf_count tr = rw (e, le-leb (leaf_count tr) 512 h) at a.is in omega (arith, a.some e)

module _ (n : ℕ) (h : ℕ → Tree) (f : ℕ → ℕ) (a : (k : ℕ) → k < n → Agrees (h k) (f k)) where
  abbrev total : ℕ
  total = sum_below (λ k. leaf_count (h k)) n

  row-some : 1 ≤ n → all_below (λ k. is_flat (h k)) n ≡ true → 1 ≤ total
  row-some l e =
      omega (arith, part_most n (λ k. leaf_count (h k)) 0 l, (a 0 l).some (at-below (λ k. is_flat (h k)) n 0 e l))

  all-some : all_below (λ k. is_flat (h k)) n ≡ true → total ≤ 512 → all_below (λ k. ltb 0 (f k)) n ≡ true
  all-some e m = all-below (λ k. ltb 0 (f k)) n (λ k l. lt-ltb 0 (f k)
      (agrees_few (h k) (f k) (a k l) (at-below (λ k. is_flat (h k)) n k e l) (omega (arith, part_most n (λ k. leaf_count (h k)) k l))))

  too_many : all_below (λ k. ltb 0 (f k)) n ≡ false → all_below (λ k. is_flat (h k)) n ≡ true → 0 ≡ capped total
  unfolding capped
  too_many e g = go (leb total 512) refl
    where
      go : (b : Bool) → leb total 512 ≡ b → 0 ≡ capped total
      go true p = absurd (clash e (all-some g (leb-true total 512 p)))
      go false p = rw p refl

  row_is : row_leaves f n ≡ cond (all_below (λ k. is_flat (h k)) n) (capped total) 0
  unfolding row_leaves
  row_is = go (all_below (λ k. ltb 0 (f k)) n) (all_below (λ k. is_flat (h k)) n) refl refl
    where
      go : (b d : Bool) → all_below (λ k. ltb 0 (f k)) n ≡ b → all_below (λ k. is_flat (h k)) n ≡ d
          → row_leaves f n ≡ cond (all_below (λ k. is_flat (h k)) n) (capped total) 0
      go true d e g =
          let s : (k : ℕ) → k < n → (is_flat (h k) ≡ true) × (f k ≡ leaf_count (h k)) =
          λ k l. agrees_some (h k) (f k) (a k l) (ltb-true 0 (f k) (at-below (λ k. ltb 0 (f k)) n k e l)) in
          rw (e, all-below (λ k. is_flat (h k)) n (λ k l. (s k l).0)) (ap capped (sum_equal n f (λ k. leaf_count (h k)) (λ k l. (s k l).1)))
      go false true e g = rw (e, g) (too_many e g)
      go false false e g = rw (e, g) refl

  row-agrees : 1 ≤ n → Agrees (row n h) (row_leaves f n)
  unfolding is_flat leaf_count
  row-agrees l = record { some = row-some l; is = row_is }

no_agrees : Agrees broken 0
unfolding is_flat
no_agrees = record { some = λ e. absurd (clash refl e); is = refl }

-- of 512 leaves one behind another, and not of 513 or none; not where a part is not flat, as an array with a count or what is broken
pub leaves_plan : (n code : ℕ) (ok : ℕ → Bool) → has_plan (row n (λ k. leaf code ok)) ≡ (leb 1 n && leb n 512)
unfolding has_plan is_flat leaf_count
leaves_plan n code ok =
    let m : sum_below (λ k. 1) n ≡ n = omega (arith, sum_times n 1) in
    rw (all-below (λ k. true) n (λ k l. refl), m) refl

pub part_no_plan : (n : ℕ) (h : ℕ → Tree) (k : ℕ) → k < n → is_flat (h k) ≡ false → has_plan (row n h) ≡ false
unfolding has_plan is_flat
part_no_plan n h k l e = rw (← stop-below (λ k. is_flat (h k)) n k false (sym e) refl l) refl

pub array_not_flat : (most : ℕ) (a : Tree) → is_flat (array most a) ≡ false
unfolding is_flat
array_not_flat most a = refl

pub broken_not_flat : is_flat broken ≡ false
unfolding is_flat
broken_not_flat = refl

module _ (t : List ℕ) (s : Sections) where
  pub trees-unknown : (n c : ℕ) → n ≤ c → get_or (trees t s n) c broken ≡ broken
  unfolding trees tree
  trees-unknown = made-unknown (trees t s) (tree t s) refl (λ n. refl) broken

  module _ (i : ℕ) (before : (c : ℕ) → c < i → Agrees (tree t s c) (leaves t s c)) where
    abbrev leavesAt : ℕ → ℕ
    leavesAt c = get_or (leaf_counts t s i) c 0

    child-agrees : (c : ℕ) → Agrees (get_or (trees t s i) c broken) (leavesAt c)
    child-agrees c = go (ltb c i) refl
      where
        go : (b : Bool) → ltb c i ≡ b → Agrees (get_or (trees t s i) c broken) (leavesAt c)
        go true e = let l : c < i = ltb-true c i e in rw (known t s i c l, leaves-known t s i c l) (before c l)
        go false e = let l : i ≤ c = ltb-false c i e in rw (trees-unknown i c l, leaves-unknown t s i c l) no_agrees

    elements-agree : (e : Entry) → 1 ≤ e.count → Agrees (tree_of t s (trees t s i) (Elements e)) (leaves_met t s leavesAt (Elements e))
    unfolding tree_of elements_of leaves_met is_flat
    elements-agree e l = go (eqb e.kind 3) refl
      where
        go : (b : Bool) → eqb e.kind 3 ≡ b → Agrees (tree_of t s (trees t s i) (Elements e)) (leaves_met t s leavesAt (Elements e))
        go true k =
            rw (k, ← same_row e.count (leavesAt e.of) l)
            (row-agrees e.count (λ k. get_or (trees t s i) e.of broken) (λ k. leavesAt e.of) (λ k l. child-agrees e.of) l)
        go false k = rw k (record { some = λ e. absurd (clash refl e); is = refl })

    met-agrees : (m : Met) → MetOk s m → Agrees (tree_of t s (trees t s i) m) (leaves_met t s leavesAt m)
    unfolding tree_of leaves_met is_flat leaf_count capped
    met-agrees (Leaf e) ok = record { some = λ e. omega arith; is = refl }
    met-agrees (Members e) ok =
        row-agrees e.count (λ k. get_or (trees t s i) (member_at t s (e.first + k)) broken) (λ k. leavesAt (member_at t s (e.first + k)))
        (λ k l. child-agrees (member_at t s (e.first + k))) ok
    met-agrees (Elements e) ok = elements-agree e ok
    met-agrees Broken ok = no_agrees

    next-agrees : Agrees (tree t s i) (leaves t s i)
    unfolding tree leaves
    next-agrees = met-agrees (look t s i) (met_ok t s i)

  below-agrees : (n i : ℕ) → i < n → Agrees (tree t s i) (leaves t s i)
  below-agrees zero i l = absurd (omega arith)
  below-agrees (suc n) i l = next-agrees i (λ c g. below-agrees n c (omega arith))

  pub has-plan : (i : ℕ) → has_plan (tree t s i) ≡ ltb 0 (leaves t s i)
  has-plan i = agrees_plan (tree t s i) (leaves t s i) (below-agrees (suc i) i (omega arith))

  -- and then so many leaves
  pub leaves-are : (i : ℕ) → 0 < leaves t s i → leaves t s i ≡ leaf_count (tree t s i)
  leaves-are i h = (agrees_some (tree t s i) (leaves t s i) (below-agrees (suc i) i (omega arith)) h).1
