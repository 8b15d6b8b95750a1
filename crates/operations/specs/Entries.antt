-- 01, "The type table", section 4; 02, 1: where the operations stand and what they say. A byte past the end reads as 0.
use Rattle.std.specs.Prelude.{ℕ, zero, suc, ◌+◌, Bool, cond, ◌||◌, List, eqb}
use Rattle.wire.specs.Bytes.{number}
use Rattle.operations.specs.declared.Operation.{Operation}

-- kinds of operations: 01's event and versioned data; 02, 1: a request that we send, and one that we serve
abbrev pub event_kind : ℕ
event_kind = 0

abbrev pub data_kind : ℕ
data_kind = 1

abbrev pub sent_kind : ℕ
sent_kind = 2

abbrev pub served_kind : ℕ
served_kind = 3

-- the type number that stands for none; the ID that no operation has
abbrev pub no_type : ℕ
no_type = 0xFFFF

abbrev pub no_id : ℕ
no_id = 0xFFFFFFFF

-- 02, 1: kinds 2 and 3, "whose entries are followed by" the type of the response; an unknown kind has 8 bytes
abbrev pub wide : ℕ → Bool
wide k = eqb k sent_kind || eqb k served_kind

unfoldable pub width_of : ℕ → ℕ
width_of k = cond (wide k) 10 8

-- the kind of the entry at p, and how many bytes the entry has
unfoldable pub kind_at : List ℕ → ℕ → ℕ
kind_at t p = number 1 t (p + 4)

unfoldable pub op_width : List ℕ → ℕ → ℕ
op_width t p = width_of (kind_at t p)

-- where the i-th entry stands, if the first stands at `first`
unfoldable pub op_place : List ℕ → ℕ → ℕ → ℕ
op_place t first zero = first
op_place t first (suc i) = op_place t first i + op_width t (op_place t first i)

-- the entry at p: a 32-bit ID, a 16-bit kind, the 16-bit type that it carries, and in a wide one that of its response
unfoldable pub response_at : List ℕ → ℕ → ℕ → ℕ
response_at t behind kind = cond (wide kind) (number 1 t behind) no_type

unfoldable pub operation_at : List ℕ → ℕ → Operation
operation_at t p =
    record {
      id = number 2 t p;
      kind = kind_at t p;
      carries = number 1 t (p + 6);
      responds = response_at t (p + 8) (kind_at t p);
    }

-- the ID of the i-th entry
unfoldable pub id_at : List ℕ → ℕ → ℕ → ℕ
id_at t first i = number 2 t (op_place t first i)
