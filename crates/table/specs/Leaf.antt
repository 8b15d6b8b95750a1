-- The leaves: how many bytes a base code takes on the wire, and which 64-bit words are its values. One definition, for the
-- table's enums and for packing and unpacking. 01, "The type table" (Base codes) and "Payload and words"; 000, Table 6.
use Rattle.std.specs.Prelude.{ℕ, ◌-◌, ◌/◌, ◌%◌, ◌^◌, Bool, false, ◌&&◌, ◌||◌, not, List, [], ◌∷◌, ltb, leb, eqb, get_or}
use Rattle.wire.specs.Bytes.{span}

-- a leaf of 2 ^ k bytes; an unsigned number is below n; a float has e bits of exponent and below them f bits of fraction
pub data Leaf : Type 0 where
  boolean : Leaf
  signed : ℕ → Leaf
  unsigned : ℕ → ℕ → Leaf
  float : ℕ → ℕ → ℕ → Leaf
  none : Leaf

-- 01, Base codes, from 0 on: boolean8, int8, char8, int16, int32, int64, uint8, byte, uint16, uint32, uint64, float32, double64.
-- char8 is ASCII: 02, request 2; 000, Table 6
abbrev pub codes : List Leaf
codes =
    boolean ∷ signed 0 ∷ unsigned 0 128 ∷ signed 1 ∷ signed 2 ∷ signed 3 ∷ unsigned 0 256 ∷ unsigned 0 256 ∷ unsigned 1 65536
    ∷ unsigned 2 4294967296 ∷ unsigned 3 18446744073709551616 ∷ float 2 8 23 ∷ float 3 11 52 ∷ []

unfoldable pub base : ℕ → Leaf
base code = get_or codes code none

abbrev pub is_base : ℕ → Bool
is_base code = leb code 12

-- the base codes of enums: int8, and int16 to uint64
abbrev pub is_enum_base : ℕ → Bool
is_enum_base code = eqb code 1 || (leb 3 code && leb code 10)

-- the bytes that a leaf takes
unfoldable pub bytes_of : Leaf → ℕ
bytes_of boolean = 1
bytes_of (signed k) = 2 ^ k
bytes_of (unsigned k n) = 2 ^ k
bytes_of (float k e f) = 2 ^ k
bytes_of none = 0

-- a word below half of what 2 ^ k bytes hold, or the two's complement of a number down to minus that half, in 64 bits
unfoldable pub in_signed : ℕ → ℕ → Bool
in_signed half w = ltb w half || (leb (2 ^ 64 - half) w && ltb w (2 ^ 64))

-- the bits of a float whose exponent, e bits above f bits of fraction, is not all ones
unfoldable pub finite : ℕ → ℕ → ℕ → Bool
finite e f w = not (eqb (w / 2 ^ f % 2 ^ e) (2 ^ e - 1))

-- the word is a value of the leaf
unfoldable pub is_value : Leaf → ℕ → Bool
is_value boolean w = ltb w 2
is_value (signed k) w = in_signed (span k / 2) w
is_value (unsigned k n) w = ltb w n
is_value (float k e f) w = ltb w (span k) && finite e f w
is_value none w = false

-- the width of a base code in bytes, and its words
unfoldable pub width : ℕ → ℕ
width code = bytes_of (base code)

unfoldable pub allowed : ℕ → ℕ → Bool
allowed code w = is_value (base code) w
