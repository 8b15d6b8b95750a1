-- 32, "an entry breaks a rule below": 01's rules for the entries of a type table, one for each kind of type and one for operations,
-- with 02, 1's two kinds of these, in the papers' words and numbers. That they are what a check tests is in proofs/Rules32.antt; that
-- 32 is given just where one is broken, in specs/TableOrder.
use Rattle.std.specs.Prelude.{ℕ, zero, suc, ◌+◌, ◌-◌, ◌*◌, ◌^◌, ◌≤◌, ◌<◌, ◌≡◌, true, cond, ◌||◌, ◌⊎◌, ◌↔◌, List, eqb}
use Rattle.wire.specs.Bytes.{number}
use Rattle.table.specs.declared.Sections.{Sections}
use Rattle.types.specs.Rules.{type_ok}
use Rattle.operations.specs.Rules.{operation_ok}

-- a type: "four 16-bit numbers each: kind, of, first, count"
abbrev pub kind_of : List ℕ → Sections → ℕ → ℕ
kind_of t s i = number 1 t (s.types.at + 8 * i)

abbrev pub of_of : List ℕ → Sections → ℕ → ℕ
of_of t s i = number 1 t (s.types.at + 8 * i + 2)

abbrev pub first_of : List ℕ → Sections → ℕ → ℕ
first_of t s i = number 1 t (s.types.at + 8 * i + 4)

abbrev pub count_of : List ℕ → Sections → ℕ → ℕ
count_of t s i = number 1 t (s.types.at + 8 * i + 6)

-- a member: "a 16-bit type number each"; an enum value: "a 64-bit word each"
abbrev pub member_in : List ℕ → Sections → ℕ → ℕ
member_in t s k = number 1 t (s.members.at + 2 * k)

abbrev pub value_in : List ℕ → Sections → ℕ → ℕ
value_in t s k = number 3 t (s.values.at + 8 * k)

-- an operation: "32-bit ID, 16-bit kind, 16-bit type", 8 bytes; and kinds 2 and 3, "whose entries are followed by a 16-bit response
-- type", 10. So where the i-th stands goes by the kinds of those before it
abbrev pub operation_bytes : ℕ → ℕ
operation_bytes kind = cond (eqb kind 2 || eqb kind 3) 10 8

abbrev pub operation_place : List ℕ → Sections → ℕ → ℕ
operation_place t s zero = s.operations.at
operation_place t s (suc i) = operation_place t s i + operation_bytes (number 1 t (operation_place t s i + 4))

abbrev pub id_of : List ℕ → Sections → ℕ → ℕ
id_of t s i = number 2 t (operation_place t s i)

abbrev pub operation_kind : List ℕ → Sections → ℕ → ℕ
operation_kind t s i = number 1 t (operation_place t s i + 4)

abbrev pub operation_type : List ℕ → Sections → ℕ → ℕ
operation_type t s i = number 1 t (operation_place t s i + 6)

abbrev pub response_type : List ℕ → Sections → ℕ → ℕ
response_type t s i = number 1 t (operation_place t s i + 8)

-- "0 base (of is the code)", 0 to 12; "Unused fields are 0"
pub record BaseRule (of first count : ℕ) : Type 0 where
  pub code : of ≤ 12
  pub first_unused : first ≡ 0
  pub count_unused : count ≡ 0

-- "values .. allowed in the base": 1 int8, 3 int16, 4 int32, 5 int64, 6 uint8, 7 byte, 8 uint16, 9 uint32, 10 uint64; "Signed leaves are
-- sign-extended in two's complement"
abbrev pub Signed : ℕ → ℕ → Type 0
Signed half w = (w < half) ⊎ ((2 ^ 64 - half ≤ w) × (w < 2 ^ 64))

pub record AllowedIn (code w : ℕ) : Type 0 where
  pub int8 : code ≡ 1 → Signed 128 w
  pub int16 : code ≡ 3 → Signed 32768 w
  pub int32 : code ≡ 4 → Signed 2147483648 w
  pub int64 : code ≡ 5 → Signed 9223372036854775808 w
  pub uint8 : code ≡ 6 → w < 256
  pub byte : code ≡ 7 → w < 256
  pub uint16 : code ≡ 8 → w < 65536
  pub uint32 : code ≡ 9 → w < 4294967296
  pub uint64 : code ≡ 10 → w < 18446744073709551616

-- "1 enum (of is its base code, 1 or 3 to 10; first and count lie in section 3; values distinct and allowed in the base)"; "count is at
-- least 1 in kinds 1 to 4"
pub record EnumRule (t : List ℕ) (s : Sections) (of first count : ℕ) : Type 0 where
  pub code : (of ≡ 1) ⊎ ((3 ≤ of) × (of ≤ 10))
  pub some : 1 ≤ count
  pub lie : first + count ≤ s.values.count
  pub allowed : (k : ℕ) → k < count → AllowedIn of (value_in t s (first + k))
  pub distinct : (k : ℕ) → k < count → (j : ℕ) → j < k → ¬ (value_in t s (first + j) ≡ value_in t s (first + k))

-- "2 record (first and count in section 2)"; "Elements and members have smaller type numbers"
pub record RecordRule (t : List ℕ) (s : Sections) (i of first count : ℕ) : Type 0 where
  pub of_unused : of ≡ 0
  pub some : 1 ≤ count
  pub lie : first + count ≤ s.members.count
  pub smaller : (k : ℕ) → k < count → member_in t s (first + k) < i

-- "3 fixed array and 4 array (of is the element, count the length or the maximum)"
pub record ArrayRule (i of first count : ℕ) : Type 0 where
  pub smaller : of < i
  pub first_unused : first ≡ 0
  pub some : 1 ≤ count

-- type i with these numbers: kinds 0 to 4, and the rule of its kind
pub record TypeRule (t : List ℕ) (s : Sections) (i kind of first count : ℕ) : Type 0 where
  pub known : kind ≤ 4
  pub base : kind ≡ 0 → BaseRule of first count
  pub enum : kind ≡ 1 → EnumRule t s of first count
  pub of_members : kind ≡ 2 → RecordRule t s i of first count
  pub fixed_array : kind ≡ 3 → ArrayRule i of first count
  pub array : kind ≡ 4 → ArrayRule i of first count

abbrev pub TypeKeeps : List ℕ → Sections → ℕ → Type 0
TypeKeeps t s i = TypeRule t s i (kind_of t s i) (of_of t s i) (first_of t s i) (count_of t s i)

-- 01: "16-bit kind (0 event, 1 versioned data), 16-bit type, or 0xFFFF for none (events only)"; 02, 1: "kinds 2 (we send the request)
-- and 3 (we serve it)", with a type and a response type; "in both, 0xFFFF stands for no type". There is no other kind
pub data TypeOrNone (s : Sections) (type : ℕ) : Type 0 where
  its_type : type < s.types.count → TypeOrNone s type
  none : type ≡ 0xFFFF → TypeOrNone s type

pub data Carries (s : Sections) (kind type response : ℕ) : Type 0 where
  a_type : (kind ≡ 0) ⊎ (kind ≡ 1) → type < s.types.count → Carries s kind type response
  nothing : kind ≡ 0 → type ≡ 0xFFFF → Carries s kind type response
  a_request : (kind ≡ 2) ⊎ (kind ≡ 3) → TypeOrNone s type → TypeOrNone s response → Carries s kind type response

-- "IDs strictly rise and are below 0xFFFFFFFF", over all kinds
pub record OperationKeeps (t : List ℕ) (s : Sections) (i : ℕ) : Type 0 where
  pub rises : 1 ≤ i → id_of t s (i - 1) < id_of t s i
  pub below : id_of t s i < 0xFFFFFFFF
  pub carries : Carries s (operation_kind t s i) (operation_type t s i) (response_type t s i)

-- they are what a check tests
pub record Rules32 : Type 0 where
  pub types : (t : List ℕ) (s : Sections) (i : ℕ) → (type_ok t s i ≡ true) ↔ TypeKeeps t s i
  pub operations : (t : List ℕ) (s : Sections) (i : ℕ) → (operation_ok t s.operations.at s.types.count i ≡ true) ↔ OperationKeeps t s i
