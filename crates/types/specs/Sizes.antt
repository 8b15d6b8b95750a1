-- 01, "The type table": the largest size of a type in bytes. Number 33.
use Rattle.std.specs.Prelude.{ℕ, zero, suc, ◌+◌, ◌*◌, Bool, cond, ◌&&◌, List, [], ◌∷◌, ◌++◌, ◌==◌, nat_le, nat_lt, slice_index}
use Rattle.std.specs.Prelude.{Option, Some, None}
use Rattle.table.specs.declared.Sections.{Sections}
use Rattle.table.specs.declared.Entry.{Entry}
use Rattle.wire.specs.All.{all_below}
use Rattle.table.specs.Leaf.{width}
use Rattle.table.specs.Layout.{most_types}
use Rattle.table.specs.Entries.{enum_kind, record_kind, fixed_kind, array_kind, type_at, member_at, is_type}

-- the most bytes that a type may take, and those of an array's count
abbrev pub most_bytes : ℕ
most_bytes = 65536

abbrev pub count_bytes : ℕ
count_bytes = 4

-- a record's sum: the sizes of its first n members
unfoldable pub sum_of : List ℕ → Sections → List ℕ → Entry → ℕ → ℕ
sum_of t s known e zero = 0
sum_of t s known e (suc n) = sum_of t s known e n + slice_index known (member_at t s (e.first + n))

-- the same from the first member's number on
unfoldable pub sum_from : List ℕ → Sections → List ℕ → ℕ → ℕ → ℕ
sum_from t s known first zero = 0
sum_from t s known first (suc n) = sum_from t s known first n + slice_index known (member_at t s (first + n))

-- the largest size of an entry, where the sizes of the types before it are known: a leaf's width, a record's sum, a fixed
-- array's product, an array's product plus 4
unfoldable pub size_of : List ℕ → Sections → List ℕ → Entry → ℕ
size_of t s known e =
    cond (nat_le e.kind enum_kind) (width e.of)
    (cond (e.kind == record_kind) (sum_of t s known e e.count)
    (cond (e.kind == fixed_kind) (e.count * slice_index known e.of)
    (cond (e.kind == array_kind) (e.count * slice_index known e.of + count_bytes) 0)))

-- the largest sizes of the types below n, each from those before it
unfoldable pub sizes : List ℕ → Sections → ℕ → List ℕ
sizes t s zero = []
sizes t s (suc n) = sizes t s n ++ (size_of t s (sizes t s n) (type_at t s n) ∷ [])

unfoldable pub largest : List ℕ → Sections → ℕ → ℕ
largest t s i = size_of t s (sizes t s i) (type_at t s i)

unfoldable pub fits_in_size : List ℕ → Sections → ℕ → Bool
fits_in_size t s i = nat_le (largest t s i) most_bytes

-- the largest size looked up: that of a type of the table, where neither it nor a type before it is too large
unfoldable pub bytes_up_to : ℕ → Option ℕ
bytes_up_to size = cond (nat_le size most_bytes) (Some size) None

unfoldable pub largest_below : List ℕ → Sections → ℕ → Option ℕ
largest_below t s i = cond (all_below (fits_in_size t s) i) (bytes_up_to (largest t s i)) None

unfoldable pub largest_of : List ℕ → Sections → ℕ → Option ℕ
largest_of t s i = cond (is_type s i && nat_lt i most_types) (largest_below t s i) None
