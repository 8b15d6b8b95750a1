-- What the code knows of a type's members and elements from the types before it.
use Rattle.std.specs.Prelude.{ℕ, ◌+◌, Bool, List, ltb, get_or}
use Rattle.table.specs.declared.Sections.{Sections}
use Rattle.table.specs.Entries.{member_at}

-- the leaves of each type, as a list has them
unfoldable pub listed : List ℕ → ℕ → ℕ
listed known c = get_or known c 0

-- the leaves of the k-th member from the first on, and whether it has some
unfoldable pub member_leaves : List ℕ → Sections → List ℕ → ℕ → ℕ → ℕ
member_leaves t s known first k = get_or known (member_at t s (first + k)) 0

abbrev pub has_leaves : (ℕ → ℕ) → ℕ → Bool
has_leaves f k = ltb 0 (f k)
