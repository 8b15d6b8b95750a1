-- 01, "Payload and words": which words an entry of the table takes as its leaf. A word outside its leaf's range is 42, and
-- so is a value that is not among an enum's own.
use Rattle.std.specs.Prelude.{ℕ, ◌+◌, ◌*◌, Bool, true, cond, not, ◌&&◌, List, ◌==◌}
use Rattle.wire.specs.Bytes.{number}
use Rattle.table.specs.declared.Sections.{Sections}
use Rattle.table.specs.declared.Entry.{Entry}
use Rattle.wire.specs.All.{all_below}
use Rattle.table.specs.Leaf.{allowed}
use Rattle.table.specs.Entries.{enum_kind, value_at}

-- the word is not the enum's k-th value
unfoldable pub other : List ℕ → Sections → Entry → ℕ → ℕ → Bool
other t s e w k = not (value_at t s (e.first + k) == w)

-- the word is not the k-th of the values that stand at p
unfoldable pub other_at : List ℕ → ℕ → ℕ → ℕ → Bool
other_at t p w k = not (number 3 t (p + 8 * k) == w)

-- it is one of the n that stand at p, and one of the enum's
unfoldable pub among_at : List ℕ → ℕ → ℕ → ℕ → Bool
among_at t p n w = not (all_below (other_at t p w) n)

unfoldable pub among : List ℕ → Sections → Entry → ℕ → Bool
among t s e w = not (all_below (other t s e w) e.count)

-- an enum takes its own values only, and any other leaf all that its base code allows
unfoldable pub choice : List ℕ → Sections → Entry → ℕ → Bool
choice t s e w = cond (e.kind == enum_kind) (among t s e w) true

unfoldable pub takes : List ℕ → Sections → Entry → ℕ → Bool
takes t s e w = allowed e.of w && choice t s e w
