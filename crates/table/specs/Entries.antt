-- 01, "The type table": what stands in the i-th entry of each section but the last. A byte past the end reads as 0.
use Rattle.std.specs.Prelude.{ℕ, ◌+◌, Bool, List, ltb}
use Rattle.wire.specs.Bytes.{number}
use Rattle.table.specs.declared.Sections.{Sections}
use Rattle.table.specs.declared.Entry.{Entry}
use Rattle.table.specs.Layout.{type_place, member_place, value_place}

-- kinds of types
abbrev pub base_kind : ℕ
base_kind = 0

abbrev pub enum_kind : ℕ
enum_kind = 1

abbrev pub record_kind : ℕ
record_kind = 2

abbrev pub fixed_kind : ℕ
fixed_kind = 3

abbrev pub array_kind : ℕ
array_kind = 4

-- a type: four 16-bit numbers
unfoldable pub type_at : List ℕ → Sections → ℕ → Entry
type_at t s i =
    record {
      kind = number 1 t (type_place s i);
      of = number 1 t (type_place s i + 2);
      first = number 1 t (type_place s i + 4);
      count = number 1 t (type_place s i + 6);
    }

-- a member: a 16-bit type number; an enum value: a 64-bit word
unfoldable pub member_at : List ℕ → Sections → ℕ → ℕ
member_at t s i = number 1 t (member_place s i)

unfoldable pub value_at : List ℕ → Sections → ℕ → ℕ
value_at t s i = number 3 t (value_place s i)

-- the table has a type of that number
abbrev pub is_type : Sections → ℕ → Bool
is_type s n = ltb n s.types.count
