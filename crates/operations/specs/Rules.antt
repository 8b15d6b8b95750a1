-- 01, "The type table", section 4; 02, 1: the rules of an operation's entry, number 32; and whether there is versioned data.
use Rattle.std.specs.Prelude.{ℕ, Bool, not, ◌&&◌, ◌||◌, List, ltb, leb, eqb}
use Rattle.wire.specs.All.{all_below, above}
use Rattle.operations.specs.declared.Operation.{Operation}
use Rattle.operations.specs.Entries.{event_kind, data_kind, no_type, no_id, wide, op_place, kind_at, operation_at, id_at}

-- 02, 1: "in both, 0xFFFF stands for no type"
abbrev pub type_or_none : ℕ → ℕ → Bool
type_or_none types n = ltb n types || eqb n no_type

-- an ID below 0xFFFFFFFF; an event or versioned data with a type, or an event with none; or a request
unfoldable pub fields_ok : ℕ → Operation → Bool
fields_ok types o =
    ltb o.id no_id
    && (((leb o.kind data_kind && ltb o.carries types) || (eqb o.kind event_kind && eqb o.carries no_type))
    || (wide o.kind && (type_or_none types o.carries && type_or_none types o.responds)))

-- and the ID is above the one before it, over all kinds
unfoldable pub operation_ok : List ℕ → ℕ → ℕ → ℕ → Bool
operation_ok t first types i = above (id_at t first) i && fields_ok types (operation_at t (op_place t first i))

unfoldable pub operations_ok : List ℕ → ℕ → ℕ → ℕ → Bool
operations_ok t first count types = all_below (operation_ok t first types) count

-- IDs strictly rise
unfoldable pub ids_rise : List ℕ → ℕ → ℕ → Bool
ids_rise t first count = all_below (above (id_at t first)) count

-- versioned data: an operation of kind 1 (000, 6.1.2.1: whether the platform provides any)
unfoldable pub not_data : List ℕ → ℕ → ℕ → Bool
not_data t first i = not (eqb (kind_at t (op_place t first i)) data_kind)

unfoldable pub has_data : List ℕ → ℕ → ℕ → Bool
has_data t first count = not (all_below (not_data t first) count)
