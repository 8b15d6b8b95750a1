-- How the rules of the types are gone through: first what is seen in one pass, and then, where the values of an enum do not
-- rise, which of them are distinct. `TypePasses` in proofs says that both together are `type_ok`.
use Rattle.std.specs.Prelude.{ℕ, Bool, true, cond, ◌&&◌, List, ◌==◌, nat_le}
use Rattle.table.specs.declared.Sections.{Sections}
use Rattle.table.specs.declared.Entry.{Entry}
use Rattle.wire.specs.All.{all_below, above}
use Rattle.table.specs.Leaf.{base}
use Rattle.table.specs.Entries.{enum_kind, record_kind, type_at}
use Rattle.leaf.specs.Limits.{range_of, moved}
use Rattle.types.specs.Values.{value_of, value_ok, distinct}
use Rattle.table.specs.Fields.{fields_ok}
use Rattle.types.specs.Rules.{members_ok}

-- the number of the k-th value among those of the base, from its smallest on, counted from 0
unfoldable pub rank : List ℕ → Sections → Entry → ℕ → ℕ
rank t s e k = moved (base e.of) (value_of t s e k)

-- it is above the one before it, and not above the last of the base
unfoldable pub next : List ℕ → Sections → Entry → ℕ → Bool
next t s e k = above (rank t s e) k && nat_le (rank t s e k) (range_of (base e.of)).last

unfoldable pub in_order : List ℕ → Sections → Entry → Bool
in_order t s e = all_below (next t s e) e.count

-- in one pass
unfoldable pub quick_ok : List ℕ → Sections → ℕ → Bool
quick_ok t s i =
    fields_ok s i (type_at t s i)
    && cond ((type_at t s i).kind == enum_kind) (in_order t s (type_at t s i))
    (cond ((type_at t s i).kind == record_kind) (members_ok t s i (type_at t s i)) true)

unfoldable pub enum_ok : List ℕ → Sections → ℕ → Bool
enum_ok t s i =
    fields_ok s i (type_at t s i) && (type_at t s i).kind == enum_kind
    && all_below (value_ok t s (type_at t s i)) (type_at t s i).count

-- all but that an enum's values are distinct, and that
unfoldable pub loose_ok : List ℕ → Sections → ℕ → Bool
loose_ok t s i =
    fields_ok s i (type_at t s i)
    && cond ((type_at t s i).kind == enum_kind) (all_below (value_ok t s (type_at t s i)) (type_at t s i).count)
    (cond ((type_at t s i).kind == record_kind) (members_ok t s i (type_at t s i)) true)

unfoldable pub enum_distinct : List ℕ → Sections → ℕ → Bool
enum_distinct t s i = cond ((type_at t s i).kind == enum_kind) (distinct t s (type_at t s i)) true
