-- 02, request 3: places worked out on one type, a record of an array of uint8, of 3 at most, and a record of char8, uint8 and
-- float32. The theorem is in proofs/WorkedPlaces.antt.
use Rattle.std.specs.Prelude.{ℕ, ◌≡◌, List, [], ◌∷◌, ◌++◌, take, drop, replicate}
use Rattle.payload.specs.declared.Answer.{Answer}
use Rattle.payload.specs.declared.Answer.TheVariants.{Stopped, Gave}
use Rattle.payload.specs.Calls.{unpacked, words_after, packed}
use Rattle.promises.specs.Cases.{◌behind◌}

-- a type table with that type, and its number and the array's
abbrev pub place_table : List ℕ
place_table =
    0 ∷ 6
    -- kind, of, first and count of each: uint8, char8, float32, the array, and two records
    ∷ 0 ∷ 0 ∷ 0 ∷ 6 ∷ 0 ∷ 0 ∷ 0 ∷ 0
    ∷ 0 ∷ 0 ∷ 0 ∷ 2 ∷ 0 ∷ 0 ∷ 0 ∷ 0
    ∷ 0 ∷ 0 ∷ 0 ∷ 11 ∷ 0 ∷ 0 ∷ 0 ∷ 0
    ∷ 0 ∷ 4 ∷ 0 ∷ 0 ∷ 0 ∷ 0 ∷ 0 ∷ 3
    ∷ 0 ∷ 2 ∷ 0 ∷ 0 ∷ 0 ∷ 0 ∷ 0 ∷ 3
    ∷ 0 ∷ 2 ∷ 0 ∷ 0 ∷ 0 ∷ 3 ∷ 0 ∷ 2
    -- members: char8, uint8 and float32; the array and the first record
    ∷ 0 ∷ 5
    ∷ 0 ∷ 1 ∷ 0 ∷ 0 ∷ 0 ∷ 2 ∷ 0 ∷ 3 ∷ 0 ∷ 4
    -- no enum values and operations
    ∷ 0 ∷ 0 ∷ 0 ∷ 0 ∷ []

abbrev pub float32 : ℕ
float32 = 2

abbrev pub up_to_three : ℕ
up_to_three = 3

abbrev pub nested : ℕ
nested = 5

-- bytes and words of one value: a count, two elements, and the three leaves of the record within
abbrev pub payload : List ℕ
payload = 0x00 ∷ 0x00 ∷ 0x00 ∷ 0x02 ∷ 0x01 ∷ 0x02 ∷ 0x41 ∷ 0x80 ∷ 0x3F ∷ 0x80 ∷ 0x00 ∷ 0x00 ∷ []

abbrev pub words : List ℕ
words = 2 ∷ 1 ∷ 2 ∷ 65 ∷ 128 ∷ 0x3F800000 ∷ []

-- the char8 is above 127; the float is not finite; the count is over its maximum, or above what 32 bits hold
abbrev pub bad_char : List ℕ
bad_char = take 6 payload ++ (0x80 ∷ drop 7 payload)

abbrev pub bad_float : List ℕ
bad_float = take 8 payload ++ (0x7F ∷ 0x80 ∷ 0x00 ∷ 0x00 ∷ [])

abbrev pub bad_count : List ℕ
bad_count = 0x00 ∷ 0x00 ∷ 0x00 ∷ 0x04 ∷ 0x01 ∷ 0x02 ∷ 0x41 ∷ 0x80 ∷ 0x3F ∷ 0x80 ∷ 0x00 ∷ 0x00 ∷ []

abbrev pub bad_char_word : List ℕ
bad_char_word = 2 ∷ 1 ∷ 2 ∷ 128 ∷ 128 ∷ 0x3F800000 ∷ []

abbrev pub bad_words : List ℕ
bad_words = 4294967296 ∷ 1 ∷ 2 ∷ 65 ∷ 128 ∷ 0x3F800000 ∷ []

-- with any room
abbrev pub Unpacks : List ℕ → Answer → Type 0
Unpacks b a = (room : ℕ) → unpacked place_table nested b room ≡ a

abbrev pub Packs : List ℕ → Answer → Type 0
Packs ws a = (room : ℕ) → packed place_table nested ws room ≡ a

pub record WorkedPlaces : Type 0 where
  pub read : (unpacked place_table nested payload 6 ≡ Gave 6) × (words_after place_table nested payload (replicate 6 9) ≡ words)
  pub count_over_most : Unpacks bad_count (Stopped 43 (0 behind 0))
  pub count_cut : Unpacks (take 3 payload) (Stopped 40 (0 behind 0))
  pub char_not_ascii : Unpacks bad_char (Stopped 42 (6 behind 3))
  pub float_not_finite : Unpacks bad_float (Stopped 42 (8 behind 5))
  pub float_cut : Unpacks (take 10 payload) (Stopped 40 (8 behind 5))
  pub two_left : Unpacks (payload ++ (0x00 ∷ 0x00 ∷ [])) (Stopped 41 (12 behind 6))
  pub word_over_most : Packs bad_words (Stopped 43 (0 behind 0))
  pub char_word_not_ascii : Packs bad_char_word (Stopped 42 (3 behind 3))
  pub five_words : Packs (take 5 words) (Stopped 40 (5 behind 5))
