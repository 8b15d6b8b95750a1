-- 01, "Payload and words": reading a payload.
use Rattle.std.specs.Prelude.{ℕ, ◌+◌, ◌*◌, ◌≤◌, ◌≡◌, Bool, true, false, List, [], ◌∷◌, leb, length}
use Rattle.table.specs.declared.Sections.{Sections}
use Rattle.table.specs.declared.Entry.{Entry}
use Rattle.table.specs.Leaf.{width}
use Rattle.table.specs.Entries.{record_kind, member_at}
use Rattle.leaf.specs.Choice.{choice, takes}
use Rattle.leaf.specs.Forms.{word_at}
use Rattle.walk.specs.declared.Place.{Place}
use Rattle.walk.specs.Tree.{Tree, leaf, row}
use Rattle.walk.specs.Walk.{Step, Codec, Goes, through, walk}
use Rattle.walk.specs.Planned.{is_planned, plan_tree, child_by}
use Rattle.unpack_leaves.specs.Steps.{ReadsCodes}

-- a leaf of a payload is its word, one for each leaf
unfoldable pub reader : List ℕ → Codec
reader b =
    record {
      word = λ code p. word_at code b p.from;
      there = λ code p. leb (p.from + width code) (length b);
      after = λ code p. record { from = p.from + width code; to = p.to + 1 };
      gives = λ code w. w ∷ [];
      leaves = λ p. p.to;
    }

-- a place that reading can come to: every leaf has a byte at least
abbrev pub Reading : List ℕ → Place → Type 0
Reading b p = (p.to ≤ p.from) × (p.from ≤ length b)

-- the step over a tree, whichever it is
abbrev pub tree_read : List ℕ → Tree → ℕ → Place → List ℕ → Step
tree_read b tr k q y = walk (reader b) tr q y

-- the step over a record's k-th member
abbrev pub member_read : List ℕ → List ℕ → List ℕ → Sections → ℕ → Entry → ℕ → Place → List ℕ → Step
member_read b ps t s i e k q y = walk (reader b) (child_by ps t s i (member_at t s (e.first + k))) q y

-- and over an element of type c
abbrev pub element_read : List ℕ → List ℕ → List ℕ → Sections → ℕ → ℕ → ℕ → Place → List ℕ → Step
element_read b ps t s i c k q y = walk (reader b) (child_by ps t s i c) q y

-- which is a leaf; and whether its entry takes the k-th of several, one behind another
abbrev pub entry_read : List ℕ → List ℕ → Sections → Entry → ℕ → Place → List ℕ → Step
entry_read b t s e k q y = walk (reader b) (leaf e.of (choice t s e)) q y

abbrev pub entry_takes : List ℕ → List ℕ → Sections → Entry → ℕ → ℕ → Bool
entry_takes b t s e from k = takes t s e (word_at e.of b (from + k * width e.of))

-- a record of type i by its members, with no plan of its own; and the tree of elements of type i, whose entry is e
abbrev pub record_of : List ℕ → List ℕ → Sections → ℕ → Entry → Tree
record_of ps t s i e = row e.count (λ k. child_by ps t s i (member_at t s (e.first + k)))

pub record Alike (ps t : List ℕ) (s : Sections) (i : ℕ) (e : Entry) (tr : Tree) : Type 0 where
  pub planned : is_planned ps i ≡ true → tr ≡ plan_tree t ps i
  pub members : is_planned ps i ≡ false → e.kind ≡ record_kind → tr ≡ record_of ps t s i e

-- the step over n leaves, one behind another; and k of n times leaves of these codes read
abbrev pub row_read : ℕ → (ℕ → Place → List ℕ → Step) → ℕ → Place → List ℕ → Step
row_read n f k q y = through n f q y

pub record Coded (b codes : List ℕ) (n : ℕ) (p : Place) (x : List ℕ) (k : ℕ) (q : Place) (y : List ℕ) : Type 0 where
  pub most : k ≤ n
  pub here : Reading b q
  pub as_long : length y ≡ length x
  pub goes : (f : ℕ → Place → List ℕ → Step) → ReadsCodes b codes 0 f → Goes (row_read (length codes) f) 0 p x k q y
