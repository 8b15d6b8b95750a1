-- Which value of the table was the last one alike, for each; and which enums have no two that are alike.
use Rattle.std.specs.Prelude.{◌≡◌, ℕ, zero, suc, ◌+◌, ◌<◌, Bool, true, cond, ◌&&◌, List, ◌==◌, nat_le, slice_index}
use Rattle.table.specs.declared.Sections.{Sections}
use Rattle.table.specs.declared.Entry.{Entry}
use Rattle.wire.specs.All.{all_below}
use Rattle.table.specs.Layout.{most_values}
use Rattle.table.specs.Entries.{enum_kind, type_at, value_at}
use Rattle.types.specs.Values.{distinct}

-- the number behind that of the last below n with this word, or 0
unfoldable pub last_equal : (ℕ → ℕ) → ℕ → ℕ → ℕ
last_equal f word zero = 0
last_equal f word (suc n) = cond (f n == word) (suc n) (last_equal f word n)

unfoldable pub last_alike : List ℕ → Sections → ℕ → ℕ
last_alike t s k = last_equal (value_at t s) (value_at t s k) k

-- the room holds it for the first n values
abbrev pub Alikes : List ℕ → Sections → ℕ → List ℕ → Type 0
Alikes t s n room = (k : ℕ) → k < n → slice_index room k ≡ last_alike t s k

-- the last one like the k-th from first on stands before first
unfoldable pub unlike_in : List ℕ → ℕ → ℕ → Bool
unlike_in room first k = nat_le (slice_index room (first + k)) first

-- the values of an enum's entry lie in their section and are distinct
unfoldable pub values_apart : List ℕ → Sections → Entry → Bool
values_apart t s e = nat_le (e.first + e.count) s.values.count && distinct t s e

unfoldable pub enum_apart : List ℕ → Sections → ℕ → Bool
enum_apart t s i = cond ((type_at t s i).kind == enum_kind) (values_apart t s (type_at t s i)) true

-- those of every enum, in a section that is no longer than it may be
unfoldable pub all_apart : List ℕ → Sections → Bool
all_apart t s = nat_le s.values.count most_values && all_below (enum_apart t s) s.types.count
