-- 01, "The type table": the rule of the fields of a type's entry. Number 32.
use Rattle.std.specs.Prelude.{ℕ, ◌+◌, Bool, false, ◌&&◌, ◌||◌, cond, ltb, leb, eqb}
use Rattle.table.specs.declared.Sections.{Sections}
use Rattle.table.specs.declared.Entry.{Entry}
use Rattle.table.specs.Leaf.{is_base, is_enum_base}
use Rattle.table.specs.Entries.{base_kind, enum_kind, record_kind, fixed_kind, array_kind}

-- 0 base: of is the code, and first and count are unused
abbrev pub base_fields : Entry → Bool
base_fields e = is_base e.of && eqb e.first 0 && eqb e.count 0

-- 1 enum: of is its base code, 1 or 3 to 10; first and count lie in section 3
abbrev pub enum_fields : Sections → Entry → Bool
enum_fields s e = is_enum_base e.of && leb 1 e.count && leb (e.first + e.count) s.values.count

-- 2 record: of is unused; first and count lie in section 2
abbrev pub record_fields : Sections → Entry → Bool
record_fields s e = eqb e.of 0 && leb 1 e.count && leb (e.first + e.count) s.members.count

-- 3 fixed array and 4 array: of is the element, whose number is smaller; first is unused
abbrev pub element_fields : ℕ → Entry → Bool
element_fields i e = ltb e.of i && eqb e.first 0 && leb 1 e.count

-- the fields of type i's entry, in constant time
unfoldable pub fields_ok : Sections → ℕ → Entry → Bool
fields_ok s i e =
    cond (eqb e.kind base_kind) (base_fields e)
    (cond (eqb e.kind enum_kind) (enum_fields s e)
    (cond (eqb e.kind record_kind) (record_fields s e)
    (cond (eqb e.kind fixed_kind || eqb e.kind array_kind) (element_fields i e) false)))
