-- Elements of an array that are leaves of one entry: how their words are judged, and what a walk over them comes to.
-- Assumes nothing.
use Prim.Native.Nat.{ℕ, ◌+◌, ◌-◌, ◌*◌, ◌≤◌}
use mathlib.Core.Path.{◌≡◌, refl, sym, ap, ◌∙◌}
use mathlib.Core.Bool.{true, cond}
use mathlib.Core.List.{List}
use native.Mathlib.Omega.{arith}
use borrow.Author.Tests.{eq-eqb, ne_eqb}
use lib.Dec.{ltb, leb}
use lib.ListN.{length, get_or}
use Rattle.wire.proofs.Cond.{both, and_true}
use Rattle.table.specs.declared.Sections.{Sections}
use Rattle.table.specs.declared.Entry.{Entry}
use Rattle.table.specs.Leaf.{width, allowed}
use Rattle.leaf.specs.Choice.{among_at, among, choice}
use Rattle.leaf.proofs.Returns.{by_place}
use Rattle.walk.specs.declared.Met.{Met}
use Rattle.walk.specs.declared.Place.{Place}
use Rattle.walk.specs.Tree.{Tree, leaf, tree_of, meet}
use Rattle.walk.specs.Walk.{Step, on, through, walk, leaf_walk, Going}
use Rattle.walk.specs.Planned.{tree_by, trees_by, child_by}
use Rattle.walk.proofs.Trees.{child_met, members-by, elements-by}
use Rattle.walk.proofs.Returns.{item_on}
use Rattle.pack_leaves.specs.Stored.{is_there, behind, stored}
use Rattle.pack_leaves.specs.StoredRuns.{behind_all, stored_all}
use Rattle.pack.specs.JudgedRuns.{AllThere}
use Rattle.pack.specs.Writing.{writer, Writing, tree_written}
use Rattle.pack.specs.ByPlan.{AllAmong}
use Rattle.pack.specs.Alike.{AllChosen, WritesLeaf, MetTree}
use Rattle.pack.proofs.JudgedRuns.{rest-on, all_stored, run_long, writing-run}

-- the words
module _ (ws t : List ℕ) (s : Sections) (e : Entry) (from n : ℕ) (there : AllThere ws e.of from n) where
  pub base-chosen : (e.kind ≡ 1 → ⊥) → AllChosen ws t s e from n
  unfolding choice
  base-chosen h k l = (there k l, rw (ne_eqb e.kind 1 h) refl)

  pub enum-chosen : (p : ℕ) → e.kind ≡ 1 → p ≡ s.values.at + 8 * e.first → AllAmong ws t p e.count from n → AllChosen ws t s e from n
  unfolding choice
  enum-chosen p h is among k l =
      let w : ℕ = get_or ws (from + k) 0 in
      let a : true ≡ among_at t (s.values.at + 8 * e.first) e.count w = rw is at (sym (among k l)) in
      (there k l, rw (eq-eqb e.kind 1 h) (sym (by_place t s e w a)))

-- a leaf that is there and taken
pub leaf_on : (ws t : List ℕ) (s : Sections) (e : Entry) (q : Place) (y : List ℕ) → is_there ws e.of q.from ≡ true
    → choice t s e (get_or ws q.from 0) ≡ true → leaf_walk (writer ws) t s e q y ≡ on (behind e.of q) (stored ws e.of q y)
unfolding is_there writer leaf_walk
leaf_on ws t s e q y h g =
    let d : (ltb q.from (length ws) ≡ true) × (allowed e.of (get_or ws q.from 0) ≡ true) = both (ltb q.from (length ws))
    (allowed e.of (get_or ws q.from 0)) h in
    item_on (writer ws) 42 e.of (choice t s e) q y d.0 (and_true (allowed e.of (get_or ws q.from 0)) (choice t s e (get_or ws q.from 0)) d.1 g)

-- a run of them, from the k-th element on
module _ (ws t : List ℕ) (s : Sections) (e : Entry) (p : Place) (x y : List ℕ) (k n w : ℕ) (is : w ≡ width e.of) (inside : p.from + n ≤ length ws)
    (put : y ≡ cond (leb (p.from + n) (length ws)) (stored_all ws e.of p n x) x) (chosen : AllChosen ws t s e p.from n) (so_far : Writing ws p) where
  pub leaves-going : (count : ℕ) → n ≡ count - k → k ≤ count → (f : ℕ → Place → List ℕ → Step) → WritesLeaf ws t s e f
      → Going (Writing ws) f count k p x count (record { from = p.from + n; to = p.to + n * w }) y
  leaves-going count many few f writes =
      let end : k + n ≡ count = omega arith in
      let code : ℕ = e.of in
      record {
        onward = few;
        most = omega arith;
        here = writing-run ws e.of w p n is inside so_far;
        as_long = run_long ws e.of p x n y inside put;
        goes = λ p₀ x₀ h.
            ap (λ (m : ℕ). through m f p₀ x₀) (sym end)
            ∙ rest-on ws e.of p x k n f
            (λ j z l. writes (k + j) (behind_all e.of p j) z ∙ leaf_on ws t s e (behind_all e.of p j) z (chosen j l).0 (chosen j l).1) p₀ x₀ h
            ∙ rw (is, all_stored ws e.of p x n y inside put) refl;
      }

-- the steps over a leaf
pub leaf_written : (ws t : List ℕ) (s : Sections) (e : Entry) (tr : Tree) → tr ≡ leaf e.of (choice t s e) → WritesLeaf ws t s e (tree_written ws tr)
unfolding walk leaf_walk
leaf_written ws t s e tr h k q y = ap (λ (u : Tree). walk (writer ws) u q y) h

-- an element, by what was met
pub element_met : (ps t : List ℕ) (s : Sections) (i c : ℕ) (m : Met) → m ≡ meet t s i c → MetTree ps t s c m (child_by ps t s i c)
unfolding tree_by tree_of
element_met ps t s i c m meets =
    record {
      of_leaf = λ e h. child_met ps t s i c m meets ∙ ap (tree_by ps t s c (trees_by ps t s c)) h;
      of_members = λ e h. members-by ps t s i c m e meets h;
      of_elements = λ e h. elements-by ps t s i c m e meets h;
    }
