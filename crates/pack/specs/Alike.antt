-- Elements of an array that are leaves of one entry: how their words are judged, and what a walk over them does.
use Rattle.std.specs.Prelude.{ℕ, ◌+◌, ◌<◌, ◌≡◌, true, List, get_or}
use Rattle.table.specs.declared.Sections.{Sections}
use Rattle.table.specs.declared.Entry.{Entry}
use Rattle.leaf.specs.Choice.{choice}
use Rattle.walk.specs.declared.Met.{Met}
use Rattle.walk.specs.declared.Met.TheVariants.{Leaf, Members, Elements}
use Rattle.walk.specs.declared.Place.{Place}
use Rattle.walk.specs.Tree.{Tree, leaf}
use Rattle.walk.specs.Planned.{is_planned, plan_tree}
use Rattle.walk.specs.Walk.{Step, leaf_walk}
use Rattle.pack_leaves.specs.Stored.{is_there}
use Rattle.pack.specs.Writing.{writer}

-- n words from the from-th on are there, and the entry's leaf takes each
abbrev pub AllChosen : List ℕ → List ℕ → Sections → Entry → ℕ → ℕ → Type 0
AllChosen ws t s e from n = (k : ℕ) → k < n → (is_there ws e.of (from + k) ≡ true) × (choice t s e (get_or ws (from + k) 0) ≡ true)

-- each step of a walk is over a leaf of the entry
abbrev pub WritesLeaf : List ℕ → List ℕ → Sections → Entry → (ℕ → Place → List ℕ → Step) → Type 0
WritesLeaf ws t s e f = (k : ℕ) (q : Place) (y : List ℕ) → f k q y ≡ leaf_walk (writer ws) t s e q y

-- the tree of what was met at type c: a leaf, or the plan of a record or an array that has one
pub record MetTree (ps t : List ℕ) (s : Sections) (c : ℕ) (m : Met) (tr : Tree) : Type 0 where
  pub of_leaf : (e : Entry) → m ≡ Leaf e → tr ≡ leaf e.of (choice t s e)
  pub of_members : (e : Entry) → m ≡ Members e → is_planned ps c ≡ true → tr ≡ plan_tree t ps c
  pub of_elements : (e : Entry) → m ≡ Elements e → is_planned ps c ≡ true → tr ≡ plan_tree t ps c
