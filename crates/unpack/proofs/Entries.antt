-- Elements that are one leaf's entry, a base or an enum: what a run of them comes to.
-- Assumes nothing.
use Prim.Native.Nat.{ℕ, ◌+◌, ◌*◌, ◌≤◌}
use mathlib.Core.Path.{◌≡◌, refl, sym, ap, subst, ◌∙◌}
use mathlib.Core.Bool.{Bool, true, cond}
use mathlib.Core.List.{List}
use native.Mathlib.Omega.{arith}
use borrow.Author.Tests.{le-leb}
use lib.Dec.{leb}
use lib.ListN.{length}
use Rattle.wire.specs.All.{all_below}
use Rattle.wire.proofs.AllBelow.{at-below}
use Rattle.wire.proofs.Cond.{yes_le}
use Rattle.table.specs.declared.Sections.{Sections}
use Rattle.table.specs.declared.Entry.{Entry}
use Rattle.table.specs.Leaf.{width}
use Rattle.leaf.specs.Choice.{choice, takes}
use Rattle.leaf.specs.Forms.{word_at}
use Rattle.walk.specs.declared.Place.{Place}
use Rattle.walk.specs.declared.Met.{Met}
use Rattle.walk.specs.declared.Met.TheVariants.{Leaf}
use Rattle.walk.specs.declared.Walked.TheVariants.{Went}
use Rattle.walk.specs.Tree.{Tree, leaf, row, meet, tree_of}
use Rattle.walk.specs.Planned.{tree_by, trees_by, child_by}
use Rattle.walk.specs.Walk.{on, through, walk, Going}
use Rattle.walk.proofs.Trees.{child_met}
use Rattle.walk.proofs.Returns.{item_on, did_on, kept_on}
use Rattle.walk.proofs.Turns.{from_first}
use Rattle.unpack_leaves.specs.Leaves.{behind, stored}
use Rattle.unpack_leaves.specs.OneCode.{along, filled}
use Rattle.unpack.specs.Reading.{reader, Reading, element_read, entry_read, entry_takes}
use Rattle.unpack_leaves.proofs.OneCode.{leaf_room, steps_on}
use Rattle.unpack_leaves.proofs.WholeRuns.{run_in}
use Rattle.unpack.proofs.ReadBases.{run_many}
use Rattle.unpack.proofs.ReadReturns.{reader_keeps}

-- reading
module _ (b t : List ℕ) (s : Sections) (e : Entry) (p : Place) (x : List ℕ) (n w : ℕ) (is : w ≡ width e.of) (f : Bool)
    (has : f ≡ leb (p.from + n * w) (length b)) (yes : f ≡ true) (h : Bool) (judged : h ≡ all_below (entry_takes b t s e p.from) n) (good : h ≡ true) where
  room : p.from + n * width e.of ≤ length b
  room = run_in b e.of p.from n w is f has yes

  one_on : (k : ℕ) (q : Place) (y : List ℕ) → leb (q.from + width e.of) (length b) ≡ true → takes t s e (word_at e.of b q.from) ≡ true
      → entry_read b t s e k q y ≡ on (behind e.of q) (stored b e.of q y)
  unfolding walk reader takes
  one_on k q y u v = item_on (reader b) 42 e.of (choice t s e) q y u v

  all-on : through n (entry_read b t s e) p x ≡ on (along e.of p n) (filled b e.of p n x)
  all-on =
      steps_on b e.of p x (entry_read b t s e) n
      (λ k l. one_on k (along e.of p k) (filled b e.of p k x)
      (le-leb (p.from + k * width e.of + width e.of) (length b) (leaf_room (length b) p.from n (width e.of) e.of k refl room l))
      (at-below (entry_takes b t s e p.from) n k (sym judged ∙ good) l))

  module _ (here : Reading b p) where
    all-reading : Reading b (record { from = p.from + n * w; to = p.to + n })
    unfolding walk
    all-reading =
        let q : Place = along e.of p n in
        let z : List ℕ = filled b e.of p n x in
        let tr : Tree = row n (λ k. leaf e.of (choice t s e)) in
        rw is
        (kept_on (Reading b) (length x) (walk (reader b) tr p x) ((reader_keeps b).walks tr p x here) (Went q) z
        (did_on (walk (reader b) tr p x) q z z all-on refl) q refl)

    pub all-going : (y : List ℕ) → y ≡ cond (leb (p.from + n * width e.of) (length b)) (filled b e.of p n x) x
        → Going (Reading b) (entry_read b t s e) n 0 p x n (record { from = p.from + n * w; to = p.to + n }) y
    all-going y put =
        from_first (omega arith) all-reading (run_many b e.of n p x y put)
        (all-on ∙ rw is (ap (on (along e.of p n)) (sym (put ∙ yes_le (filled b e.of p n x) x (p.from + n * width e.of) (length b) room))))

-- what was met at type c
pub entry_met : {P : Place → Type 0} (b ps t : List ℕ) (s : Sections) (i c : ℕ) (m : Met) (e : Entry) → m ≡ meet t s i c → m ≡ Leaf e
    → {n k : ℕ} {p : Place} {x : List ℕ} {j : ℕ} {q : Place} {y : List ℕ} → Going P (entry_read b t s e) n k p x j q y
    → Going P (element_read b ps t s i c) n k p x j q y
unfolding tree_by tree_of
entry_met {P} b ps t s i c m e meets is {n} {k} {p} {x} {j} {q} {y} g =
    let h : child_by ps t s i c ≡ leaf e.of (choice t s e) = child_met ps t s i c m meets ∙ ap (tree_by ps t s c (trees_by ps t s c)) is in
    subst (λ (tr : Tree). Going P (λ k q y. walk (reader b) tr q y) n k p x j q y) (sym h) g
