-- 01, "The type table": the values of an enum are allowed in its base and distinct. Number 32.
use Rattle.std.specs.Prelude.{ℕ, ◌+◌, Bool, not, ◌&&◌, List, ◌==◌}
use Rattle.table.specs.declared.Sections.{Sections}
use Rattle.table.specs.declared.Entry.{Entry}
use Rattle.wire.specs.All.{all_below}
use Rattle.table.specs.Leaf.{allowed}
use Rattle.table.specs.Entries.{value_at}

-- the k-th value of an enum
abbrev pub value_of : List ℕ → Sections → Entry → ℕ → ℕ
value_of t s e k = value_at t s (e.first + k)

-- it is allowed in the base
unfoldable pub value_ok : List ℕ → Sections → Entry → ℕ → Bool
value_ok t s e k = allowed e.of (value_of t s e k)

-- it is unlike each value before it
unfoldable pub unlike : List ℕ → Sections → Entry → ℕ → ℕ → Bool
unlike t s e word j = not (value_of t s e j == word)

unfoldable pub unlike_before : List ℕ → Sections → Entry → ℕ → Bool
unlike_before t s e k = all_below (unlike t s e (value_of t s e k)) k

unfoldable pub distinct : List ℕ → Sections → Entry → Bool
distinct t s e = all_below (unlike_before t s e) e.count

unfoldable pub values_ok : List ℕ → Sections → Entry → Bool
values_ok t s e = all_below (value_ok t s e) e.count && distinct t s e
