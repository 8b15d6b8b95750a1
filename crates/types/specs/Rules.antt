-- 01, "The type table": the rules of a type's entry and of what it points to. Number 32.
use Rattle.std.specs.Prelude.{ℕ, ◌+◌, Bool, true, cond, ◌&&◌, List, ◌==◌, nat_lt}
use Rattle.table.specs.declared.Sections.{Sections}
use Rattle.table.specs.declared.Entry.{Entry}
use Rattle.wire.specs.All.{all_below}
use Rattle.table.specs.Entries.{enum_kind, record_kind, type_at, member_at}
use Rattle.table.specs.Fields.{fields_ok}
use Rattle.types.specs.Values.{values_ok}

-- a record's k-th member has a smaller number than the record
unfoldable pub member_ok : List ℕ → Sections → ℕ → Entry → ℕ → Bool
member_ok t s i e k = nat_lt (member_at t s (e.first + k)) i

unfoldable pub members_ok : List ℕ → Sections → ℕ → Entry → Bool
members_ok t s i e = all_below (member_ok t s i e) e.count

-- what the entry of type i points to. Members and values that no type points to aren't judged
unfoldable pub pointed_ok : List ℕ → Sections → ℕ → Entry → Bool
pointed_ok t s i e =
    cond (e.kind == enum_kind) (values_ok t s e) (cond (e.kind == record_kind) (members_ok t s i e) true)

unfoldable pub type_ok : List ℕ → Sections → ℕ → Bool
type_ok t s i = fields_ok s i (type_at t s i) && pointed_ok t s i (type_at t s i)
