-- Demand 1, "a fixed order of checks", for type tables: "30 and 31: whichever is met first in reading order", then 32 for any
-- entry, then 33 (docs/DECISIONS.md, 21). The theorem is in proofs/TableOrder.antt.
use Rattle.std.specs.Prelude.{ℕ, ◌+◌, ◌<◌, ◌≡◌, ◌⊎◌, List, [], ◌∷◌, ◌++◌, length}
use Rattle.std.specs.Prelude.{Result, Ok}
use Rattle.refusal.specs.Refusal.{refused}
use Rattle.refusal.specs.declared.Refusal.{Refusal}
use Rattle.table.specs.declared.Section.{Section}
use Rattle.table.specs.declared.Sections.{Sections}
use Rattle.table.specs.Layout.{section_end, counted}
use Rattle.table.specs.Checked.{number_given}
use Rattle.types.specs.Sizes.{largest}
use Rattle.types.specs.Table.{checked}
use Rattle.promises.specs.Checks.{Check, ◌when◌, Answers, Gives, Outside}
use Rattle.promises.specs.Rules32.{operation_place, operation_kind, TypeKeeps, OperationKeeps}

-- the four sections, each behind the one before it: 8 bytes a type, 2 a member, 8 a value; the operations are the last
abbrev pub sections_in : List ℕ → Sections
sections_in t =
    let types : Section = counted t 0 in
    let members : Section = counted t (section_end 8 types) in
    let values : Section = counted t (section_end 2 members) in
    let operations : Section = counted t (section_end 8 values) in
    record { types = types; members = members; values = values; operations = operations }

-- a section whose count stands at p: the count is cut off, or outside its limit, or the entries are cut off
abbrev pub section_checks : ℕ → ℕ → ℕ → List ℕ → ℕ → List Check
section_checks width least most t p =
    30 when (length t < p + 2)
    ∷ 31 when Outside least most (counted t p).count
    ∷ 30 when (length t < section_end width (counted t p))
    ∷ []

-- an operation is cut short: it has 10 bytes where its kind is 2 or 3, and 8 otherwise. Where its kind is cut off, so are its 8 bytes
pub data IsCutShort (t : List ℕ) (s : Sections) : Type 0 where
  an_operation : (i : ℕ) → i < s.operations.count → length t < operation_place t s i + 8 → IsCutShort t s
  a_request : (i : ℕ) → i < s.operations.count → (operation_kind t s i ≡ 2) ⊎ (operation_kind t s i ≡ 3) → length t < operation_place t s i + 10 → IsCutShort t s

-- where the operations end
abbrev pub table_end : List ℕ → Sections → ℕ
table_end t s = operation_place t s s.operations.count

-- an entry breaks a rule (specs/Rules32); a type can exceed 65,536 bytes (specs/Sizes33)
pub data BreaksARule (t : List ℕ) (s : Sections) : Type 0 where
  a_type : (i : ℕ) → i < s.types.count → ¬ (TypeKeeps t s i) → BreaksARule t s
  an_operation : (i : ℕ) → i < s.operations.count → ¬ (OperationKeeps t s i) → BreaksARule t s

pub data IsTooLarge (t : List ℕ) (s : Sections) : Type 0 where
  a_type : (i : ℕ) → i < s.types.count → 65536 < largest t s i → IsTooLarge t s

-- in reading order: 1 to 256 types, up to 1,024 members, values and operations; the last 30 is for bytes after the end
unfoldable pub table_checks : List ℕ → List Check
table_checks t =
    section_checks 8 1 256 t 0
    ++ (section_checks 2 0 1024 t (section_end 8 (sections_in t).types)
    ++ (section_checks 8 0 1024 t (section_end 2 (sections_in t).members)
    ++ (30 when (length t < section_end 8 (sections_in t).values + 2)
    ∷ 31 when (1024 < (sections_in t).operations.count)
    ∷ 30 when IsCutShort t (sections_in t)
    ∷ 30 when (table_end t (sections_in t) < length t)
    ∷ 32 when BreaksARule t (sections_in t)
    ∷ 33 when IsTooLarge t (sections_in t)
    ∷ [])))

-- a check, ours or any other
abbrev pub TableInOrderBy : (List ℕ → Result Sections Refusal) → Type 1
TableInOrderBy C = (t : List ℕ) → Answers refused (Ok (sections_in t)) (table_checks t) (C t)

abbrev pub TableInOrder : Type 1
TableInOrder = TableInOrderBy checked

-- the number that it gives back
abbrev pub TableNumberInOrder : Type 1
TableNumberInOrder = (t : List ℕ) → Gives (table_checks t) (number_given (checked t))
