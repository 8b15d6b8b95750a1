-- Demand 2: "What we pack unpacks to the same values. What unpacks packs again to the same bytes, except that a true boolean
-- always goes out as 1." Which words are a value of a type, and what its bytes are, is said apart from any reading and writing
-- in values/specs/Values: `Value` (words and bytes), `Spoken` (a true boolean may be any byte but 0), `BooleansAsOne`.
use Rattle.std.specs.Prelude.{ℕ, ◌≤◌, ◌<◌, ◌≡◌, List, length, take}
use Rattle.std.specs.Prelude.{Ok}
use Rattle.wire.specs.Bytes.{Octets, over}
use Rattle.table.specs.declared.Sections.{Sections}
use Rattle.types.specs.Table.{checked}
use Rattle.payload.specs.declared.Answer.{Answer}
use Rattle.payload.specs.declared.Answer.TheVariants.{Gave}
use Rattle.values.specs.Values.{Value, Spoken, BooleansAsOne}
use Rattle.payload.specs.Calls.{unpacked_in, words_in, packed_in, bytes_in, unpacked, words_after, packed, bytes_after}

-- a type table that `check` accepts, and the number of a type in it
pub record Known (t : List ℕ) (s : Sections) (i : ℕ) : Type 0 where
  pub accepted : checked t ≡ Ok s
  pub known : i < s.types.count

-- packing and unpacking, ours or any other: what is answered for table bytes, a type's number, the input and the room of the output,
-- and what is left in the output
pub record Coding : Type 0 where
  pub packs : List ℕ → ℕ → List ℕ → ℕ → Answer
  pub bytes_left : List ℕ → ℕ → List ℕ → List ℕ → List ℕ
  pub unpacks : List ℕ → ℕ → List ℕ → ℕ → Answer
  pub words_left : List ℕ → ℕ → List ℕ → List ℕ → List ℕ

abbrev pub our_coding : Coding
our_coding = record { packs = packed; bytes_left = bytes_after; unpacks = unpacked; words_left = words_after }

module _ (C : Coding) where
  -- a call gives just these bytes, or words, at the start of what was lent to it; the rest stays
  abbrev pub PackGivesBy : List ℕ → ℕ → List ℕ → List ℕ → List ℕ → Type 0
  PackGivesBy t i ws out bs = (C.packs t i ws (length out) ≡ Gave (length bs)) × (C.bytes_left t i ws out ≡ over out 0 bs)

  abbrev pub UnpackGivesBy : List ℕ → ℕ → List ℕ → List ℕ → List ℕ → Type 0
  UnpackGivesBy t i b words ws = (C.unpacks t i b (length words) ≡ Gave (length ws)) × (C.words_left t i b words ≡ over words 0 ws)

  -- packing accepts the values of the type, wherever there is room, and nothing else; and gives their bytes
  pub record PacksExactlyBy (t : List ℕ) (s : Sections) (i : ℕ) : Type 0 where
    pub values : (ws bs out : List ℕ) → Value t s i ws bs → length bs ≤ length out → PackGivesBy t i ws out bs
    pub only : (ws out : List ℕ) (k : ℕ) → C.packs t i ws (length out) ≡ Gave k →
        (bs : List ℕ) × Value t s i ws bs × PackGivesBy t i ws out bs
    pub fits : (ws out : List ℕ) (k : ℕ) → C.packs t i ws (length out) ≡ Gave k → k ≤ length out

  -- unpacking accepts the byte forms of values, wherever there is room, and nothing else; and gives their words
  pub record UnpacksExactlyBy (t : List ℕ) (s : Sections) (i : ℕ) : Type 0 where
    pub forms : (ws b words : List ℕ) → Spoken t s i ws b → length ws ≤ length words → UnpackGivesBy t i b words ws
    pub only : (b words : List ℕ) (k : ℕ) → Octets b → C.unpacks t i b (length words) ≡ Gave k →
        (ws : List ℕ) × Spoken t s i ws b × UnpackGivesBy t i b words ws
    pub fits : (b words : List ℕ) (k : ℕ) → Octets b → C.unpacks t i b (length words) ≡ Gave k → k ≤ length words

  pub record RoundTripsBy (t : List ℕ) (s : Sections) (i : ℕ) : Type 0 where
    pub pack-then-unpack : (ws out words : List ℕ) (k : ℕ) → C.packs t i ws (length out) ≡ Gave k → length ws ≤ length words →
        UnpackGivesBy t i (take k (C.bytes_left t i ws out)) words ws
    pub unpack_then_pack : (b words out : List ℕ) (k : ℕ) → Octets b → C.unpacks t i b (length words) ≡ Gave k → length b ≤ length out →
        (cs : List ℕ) × BooleansAsOne t s i b cs × (length cs ≡ length b) × PackGivesBy t i (take k (C.words_left t i b words)) out cs

  abbrev pub PayloadsBy : Type 0
  PayloadsBy = (t : List ℕ) (s : Sections) (i : ℕ) → Known t s i → PacksExactlyBy t s i × UnpacksExactlyBy t s i × RoundTripsBy t s i

abbrev pub PackGives : List ℕ → ℕ → List ℕ → List ℕ → List ℕ → Type 0
PackGives = PackGivesBy our_coding

abbrev pub UnpackGives : List ℕ → ℕ → List ℕ → List ℕ → List ℕ → Type 0
UnpackGives = UnpackGivesBy our_coding

abbrev pub PacksExactly : List ℕ → Sections → ℕ → Type 0
PacksExactly = PacksExactlyBy our_coding

abbrev pub UnpacksExactly : List ℕ → Sections → ℕ → Type 0
UnpacksExactly = UnpacksExactlyBy our_coding

abbrev pub RoundTrips : List ℕ → Sections → ℕ → Type 0
RoundTrips = RoundTripsBy our_coding

-- the same calls on the sections that `check` gave answer and leave the same
pub record OnSections (t : List ℕ) (s : Sections) (i : ℕ) : Type 0 where
  pub packing : (ws out : List ℕ) →
      (packed_in t s i ws (length out) ≡ packed t i ws (length out)) × (bytes_in t s i ws out ≡ bytes_after t i ws out)
  pub unpacking : (b words : List ℕ) →
      (unpacked_in t s i b (length words) ≡ unpacked t i b (length words)) × (words_in t s i b words ≡ words_after t i b words)

-- the promise, and the calls on sections beside it
pub record Payloads : Type 0 where
  pub calls : PayloadsBy our_coding
  pub on_sections : (t : List ℕ) (s : Sections) (i : ℕ) → Known t s i → OnSections t s i
