-- 02, request 2: char8 is ASCII, as 000's Table 6 has it, where 01 lets any byte through: "Bytes and words above 127 are now 42".
-- The cases at that edge, as the starred ones are stated (specs/Cases.antt), and which words there are in all. What demand 2 says
-- of payloads (specs/Payloads) reads over `allowed`. The theorem is in proofs/Amended.antt.
use Rattle.std.specs.Prelude.{ℕ, ◌≡◌, List, [], ◌∷◌, ltb}
use Rattle.table.specs.Leaf.{allowed}
use Rattle.promises.specs.Cases.{Case, unpacks, unpack_refused, packs, pack_refused, ◌behind◌, AllHold}

-- a type table with the types of the cases, and their numbers in it
abbrev pub table : List ℕ
table =
    0 ∷ 4
    -- kind, of, first and count of each: three base types, and an array of type 0 with a maximum of 3
    ∷ 0 ∷ 0 ∷ 0 ∷ 2 ∷ 0 ∷ 0 ∷ 0 ∷ 0
    ∷ 0 ∷ 0 ∷ 0 ∷ 6 ∷ 0 ∷ 0 ∷ 0 ∷ 0
    ∷ 0 ∷ 0 ∷ 0 ∷ 7 ∷ 0 ∷ 0 ∷ 0 ∷ 0
    ∷ 0 ∷ 4 ∷ 0 ∷ 0 ∷ 0 ∷ 0 ∷ 0 ∷ 3
    -- no members, enum values and operations
    ∷ 0 ∷ 0 ∷ 0 ∷ 0 ∷ 0 ∷ 0 ∷ []

abbrev pub char8 : ℕ
char8 = 0

abbrev pub uint8 : ℕ
uint8 = 1

abbrev pub byte : ℕ
byte = 2

abbrev pub up_to_three : ℕ
up_to_three = 3

abbrev pub amended : List Case
amended =
    -- char8 `7F`: word 127
    unpacks char8 (0x7F ∷ []) (127 ∷ [])
    ∷ packs char8 (127 ∷ []) (0x7F ∷ [])
    -- char8 `80` is 42, and so is word 128
    ∷ unpack_refused char8 (0x80 ∷ []) 42 (0 behind 0)
    ∷ pack_refused char8 (128 ∷ []) 42 (0 behind 0)
    -- uint8 and byte `80`: word 128, as before
    ∷ unpacks uint8 (0x80 ∷ []) (128 ∷ [])
    ∷ packs uint8 (128 ∷ []) (0x80 ∷ [])
    ∷ unpacks byte (0x80 ∷ []) (128 ∷ [])
    ∷ packs byte (128 ∷ []) (0x80 ∷ [])
    -- array of char8, maximum 3: `00 00 00 02 41 80` is 42, and so are its words
    ∷ unpack_refused up_to_three (0 ∷ 0 ∷ 0 ∷ 2 ∷ 0x41 ∷ 0x80 ∷ []) 42 (5 behind 2)
    ∷ pack_refused up_to_three (2 ∷ 0x41 ∷ 0x80 ∷ []) 42 (2 behind 2)
    ∷ []

-- every case holds; and of all words those below 128 are char8 (code 2), and those below 256 uint8 (6) and byte (7) as before
pub record Amended : Type 0 where
  pub cases : AllHold table amended
  pub char8_words : (w : ℕ) → allowed 2 w ≡ ltb w 128
  pub uint8_words : (w : ℕ) → allowed 6 w ≡ ltb w 256
  pub byte_words : (w : ℕ) → allowed 7 w ≡ ltb w 256
