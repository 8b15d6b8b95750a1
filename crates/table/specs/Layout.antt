-- 01, "The type table": four sections, each after its 16-bit count. Where the i-th entry of each stands, and what reading
-- the sections finds. Numbers 30 and 31.
use Rattle.std.specs.Prelude.{ℕ, ◌+◌, ◌*◌, Bool, ◌&&◌, ◌||◌, cond, List, ltb, leb, eqb, length}
use Rattle.std.specs.Prelude.{Result, Ok, Err}
use Rattle.refusal.specs.declared.Refusal.{Refusal}
use Rattle.refusal.specs.declared.Refusal.TheVariants.{TableCount, TableLength}
use Rattle.wire.specs.Bytes.{number}
use Rattle.operations.specs.Entries.{op_place}
use Rattle.table.specs.declared.Section.{Section}
use Rattle.table.specs.declared.Sections.{Sections}

-- 01's number for a table cut short, where a call answers with a number
abbrev pub cut_short : ℕ
cut_short = 30

-- the bytes of one entry of each section; of an operation the fewest
abbrev pub type_width : ℕ
type_width = 8

abbrev pub member_width : ℕ
member_width = 2

abbrev pub value_width : ℕ
value_width = 8

abbrev pub operation_width : ℕ
operation_width = 8

-- the most entries of each section; there is at least one type
abbrev pub most_types : ℕ
most_types = 256

abbrev pub most_members : ℕ
most_members = 1024

abbrev pub most_values : ℕ
most_values = 1024

abbrev pub most_operations : ℕ
most_operations = 1024

-- where the i-th entry stands; the section ends where the entry behind its last would
abbrev pub entry_place : ℕ → Section → ℕ → ℕ
entry_place width s i = s.at + width * i

abbrev pub section_end : ℕ → Section → ℕ
section_end width s = entry_place width s s.count

abbrev pub type_place : Sections → ℕ → ℕ
type_place s i = entry_place type_width s.types i

abbrev pub member_place : Sections → ℕ → ℕ
member_place s i = entry_place member_width s.members i

abbrev pub value_place : Sections → ℕ → ℕ
value_place s i = entry_place value_width s.values i

-- the section whose 16-bit count stands at p
abbrev pub counted : List ℕ → ℕ → Section
counted t p = record { at = p + 2; count = number 1 t p }

-- its count must be there and within its limits, and then its entries must be there
unfoldable pub section_at : ℕ → ℕ → ℕ → List ℕ → ℕ → Result Section Refusal
section_at width least most t p =
    cond (ltb (length t) (p + 2)) (Err TableLength)
    (cond (ltb (counted t p).count least || ltb most (counted t p).count) (Err TableCount)
    (cond (ltb (length t) (section_end width (counted t p))) (Err TableLength) (Ok (counted t p))))

-- what comes after a section that was found
unfoldable pub after : Result Section Refusal → (Section → Result Sections Refusal) → Result Sections Refusal
after (Err n) next = Err n
after (Ok s) next = next s

-- the four sections in reading order, and nothing after their end. Operations have entries of two widths: 30 where the last one ends
-- past the bytes, or before their end
abbrev pub operations_end : List ℕ → Sections → ℕ
operations_end t s = op_place t s.operations.at s.operations.count

unfoldable pub ended : List ℕ → Sections → Result Sections Refusal
ended t s = cond (eqb (operations_end t s) (length t)) (Ok s) (Err TableLength)

unfoldable pub after_values : List ℕ → Section → Section → Section → Result Sections Refusal
after_values t types members values =
    after (section_at operation_width 0 most_operations t (section_end value_width values))
    (λ operations. ended t (record { types = types; members = members; values = values; operations = operations }))

unfoldable pub after_members : List ℕ → Section → Section → Result Sections Refusal
after_members t types members =
    after (section_at value_width 0 most_values t (section_end member_width members)) (after_values t types members)

unfoldable pub after_types : List ℕ → Section → Result Sections Refusal
after_types t types =
    after (section_at member_width 0 most_members t (section_end type_width types)) (after_members t types)

unfoldable pub sections_of : List ℕ → Result Sections Refusal
sections_of t = after (section_at type_width 1 most_types t 0) (after_types t)

-- a section has no more entries than its limit, and they lie within the bytes
unfoldable pub lies_in : ℕ → ℕ → ℕ → Section → Bool
lies_in width most len s = leb s.count most && leb (section_end width s) len

-- the sections could be a table's of these bytes (docs/DECISIONS.md, calls on a checked table)
unfoldable pub within : List ℕ → Sections → Bool
within t s =
    lies_in type_width most_types (length t) s.types
    && lies_in member_width most_members (length t) s.members
    && lies_in value_width most_values (length t) s.values
    && lies_in operation_width most_operations (length t) s.operations
