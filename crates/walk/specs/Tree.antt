-- 01, "The type table": a type of the table as a finite tree. Members and elements have smaller type numbers, so each tree is
-- made of those before it; what points elsewhere, and any entry that breaks a rule that the walk sees, is broken.
use Rattle.std.specs.Prelude.{ℕ, zero, suc, ◌+◌, ◌/◌, ◌%◌, Bool, ◌&&◌, cond, List, [], ◌∷◌, ◌++◌, ltb, leb, eqb, get_or}
use Rattle.table.specs.declared.Sections.{Sections}
use Rattle.table.specs.declared.Entry.{Entry}
use Rattle.table.specs.Entries.{base_kind, enum_kind, record_kind, fixed_kind, type_at, member_at}
use Rattle.table.specs.Fields.{fields_ok}
use Rattle.leaf.specs.Choice.{choice}
use Rattle.walk.specs.declared.Met.{Met}
use Rattle.walk.specs.declared.Met.TheVariants.{Leaf, Members, Elements, Broken}

pub data Tree : Type 0 where
  -- a base code, and which of its words are values
  leaf : ℕ → (ℕ → Bool) → Tree
  -- so many parts one behind another: a record's members, a fixed array's elements
  row : ℕ → (ℕ → Tree) → Tree
  -- a count up to the maximum, and so many elements
  array : ℕ → Tree → Tree
  broken : Tree

-- what the walk meets at an entry: a leaf is a base or an enum
unfoldable pub by_kind : Entry → Met
by_kind e = cond (leb e.kind enum_kind) (Leaf e) (cond (eqb e.kind record_kind) (Members e) (Elements e))

unfoldable pub look : List ℕ → Sections → ℕ → Met
look t s i = cond (fields_ok s i (type_at t s i)) (by_kind (type_at t s i)) Broken

-- an entry as one number, and what is met there; a kind above the last is none
unfoldable pub entry_in : ℕ → Entry
entry_in w = record { kind = w / 281474976710656; of = w / 4294967296 % 65536; first = w / 65536 % 65536; count = w % 65536 }

unfoldable pub met_in : ℕ → Met
met_in w = cond (ltb 4 (w / 281474976710656)) Broken (by_kind (entry_in w))

-- and at type c, coming from type i
unfoldable pub meet : List ℕ → Sections → ℕ → ℕ → Met
meet t s i c = cond (ltb c i) (look t s c) Broken

-- the code of a base that keeps its rule, and a number that is no base code for any other entry; and at type c, coming from
-- type i
abbrev pub no_base : ℕ
no_base = 13

unfoldable pub base_of : Entry → ℕ
base_of e = cond (eqb e.kind base_kind && ltb e.of no_base && eqb e.first 0 && eqb e.count 0) e.of no_base

unfoldable pub base_at : List ℕ → Sections → ℕ → ℕ → ℕ
base_at t s i c = cond (ltb c i) (base_of (type_at t s c)) no_base

unfoldable pub elements_of : Entry → Tree → Tree
elements_of e a = cond (eqb e.kind fixed_kind) (row e.count (λ k. a)) (array e.count a)

-- the tree of what was met, where the trees of the types before it are known
unfoldable pub tree_of : List ℕ → Sections → List Tree → Met → Tree
tree_of t s known (Leaf e) = leaf e.of (choice t s e)
tree_of t s known (Members e) = row e.count (λ k. get_or known (member_at t s (e.first + k)) broken)
tree_of t s known (Elements e) = elements_of e (get_or known e.of broken)
tree_of t s known Broken = broken

-- the trees of the types below n, each from those before it
unfoldable pub trees : List ℕ → Sections → ℕ → List Tree
trees t s zero = []
trees t s (suc n) = trees t s n ++ (tree_of t s (trees t s n) (look t s n) ∷ [])

unfoldable pub tree : List ℕ → Sections → ℕ → Tree
tree t s i = tree_of t s (trees t s i) (look t s i)
