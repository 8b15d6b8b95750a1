-- 01, "Payload and words": writing a payload.
use Rattle.std.specs.Prelude.{ℕ, ◌+◌, ◌*◌, ◌≤◌, ◌≡◌, true, List, ltb, length, get_or}
use Rattle.table.specs.declared.Sections.{Sections}
use Rattle.table.specs.declared.Entry.{Entry}
use Rattle.table.specs.Leaf.{width}
use Rattle.table.specs.Entries.{member_at}
use Rattle.leaf.specs.Forms.{form_of}
use Rattle.walk.specs.declared.Place.{Place}
use Rattle.walk.specs.Tree.{Tree}
use Rattle.walk.specs.Planned.{child_by}
use Rattle.walk.specs.Walk.{Step, on, Codec, walk}
use Rattle.pack_leaves.specs.Stored.{is_there, behind, stored}

-- a leaf is the next word, and its bytes are written
unfoldable pub writer : List ℕ → Codec
writer ws =
    record {
      word = λ code p. get_or ws p.from 0;
      there = λ code p. ltb p.from (length ws);
      after = λ code p. record { from = p.from + 1; to = p.to + width code };
      gives = λ code w. form_of code w;
      leaves = λ p. p.from;
    }

-- a place that writing can come to: no leaf has more than 8 bytes
abbrev pub Writing : List ℕ → Place → Type 0
Writing ws p = (p.to ≤ 8 * p.from) × (p.from ≤ length ws)

-- each step of a walk writes a leaf of that code, where its word is there
abbrev pub Writes : List ℕ → ℕ → (ℕ → Place → List ℕ → Step) → Type 0
Writes ws code f = (k : ℕ) (q : Place) (y : List ℕ) → is_there ws code q.from ≡ true → f k q y ≡ on (behind code q) (stored ws code q y)

-- the step over a tree, whichever it is
abbrev pub tree_written : List ℕ → Tree → ℕ → Place → List ℕ → Step
tree_written ws tr k q y = walk (writer ws) tr q y

-- the step over a record's k-th member
abbrev pub member_written : List ℕ → List ℕ → List ℕ → Sections → ℕ → Entry → ℕ → Place → List ℕ → Step
member_written ws ps t s i e k q y = walk (writer ws) (child_by ps t s i (member_at t s (e.first + k))) q y
