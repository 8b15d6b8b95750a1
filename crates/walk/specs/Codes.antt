-- The base codes of a record's members, as many as come one behind another from a member on.
use Rattle.std.specs.Prelude.{ℕ, zero, suc, min, ◌+◌, ◌-◌, ◌*◌, ◌/◌, ◌%◌, ◌≤◌, ◌≡◌, Bool, ◌&&◌, cond, List, [], ◌∷◌, ◌++◌, ltb, leb, length}
use Rattle.wire.specs.Bytes.{span}
use Rattle.table.specs.declared.Sections.{Sections}
use Rattle.table.specs.declared.Entry.{Entry}
use Rattle.wire.specs.All.{all_below}
use Rattle.table.specs.Layout.{type_width, member_width, type_place, member_place}
use Rattle.table.specs.Entries.{member_at}
use Rattle.walk.specs.Tree.{no_base, base_at}

-- the first n are codes of bases
unfoldable pub all_bases : (ℕ → ℕ) → ℕ → Bool
all_bases f n = all_below (λ k. ltb (f k) no_base) n

-- the most, up to n, that are codes of bases from the first on
unfoldable pub leading : (ℕ → ℕ) → ℕ → ℕ
leading f zero = zero
leading f (suc n) = cond (all_bases f (suc n)) (suc n) (leading f n)

unfoldable pub firsts : (ℕ → ℕ) → ℕ → List ℕ
firsts f zero = []
firsts f (suc n) = firsts f n ++ (f n ∷ [])

-- the code of the k-th member behind the m-th, of the record of type i and entry e
unfoldable pub code_at : List ℕ → Sections → ℕ → Entry → ℕ → ℕ → ℕ
code_at t s i e m k = base_at t s i (member_at t s (e.first + (m + k)))

-- i types from a on, and n members from b on, lie within so many bytes
unfoldable pub are_there : ℕ → ℕ → ℕ → ℕ → ℕ → Bool
are_there len a b i n = leb (a + type_width * i) len && leb (b + member_width * n) len

-- how many members there are to look at, with room for so many codes
abbrev pub most_codes : Entry → ℕ → ℕ → ℕ
most_codes e m room = min room (e.count - m)

unfoldable pub code_count : List ℕ → Sections → ℕ → Entry → ℕ → ℕ → ℕ
code_count t s i e m room =
    cond (are_there (length t) (type_place s 0) (member_place s (e.first + m)) i (most_codes e m room))
    (leading (code_at t s i e m) (most_codes e m room))
    0

unfoldable pub codes_of : List ℕ → Sections → ℕ → Entry → ℕ → ℕ → List ℕ
codes_of t s i e m room = firsts (code_at t s i e m) (code_count t s i e m room)

-- the same by places: types from a on, and members from b on
abbrev pub placed : ℕ → ℕ → Sections
placed a b =
    record {
      types = record { at = a; count = 0 };
      members = record { at = b; count = 0 };
      values = record { at = 0; count = 0 };
      operations = record { at = 0; count = 0 };
    }

unfoldable pub placed_code : List ℕ → ℕ → ℕ → ℕ → ℕ → ℕ
placed_code t a b i k = base_at t (placed a b) i (member_at t (placed a b) k)

unfoldable pub placed_count : List ℕ → ℕ → ℕ → ℕ → ℕ → ℕ
placed_count t a b i n = cond (are_there (length t) a b i n) (leading (placed_code t a b i) n) 0

unfoldable pub placed_codes : List ℕ → ℕ → ℕ → ℕ → ℕ → List ℕ
placed_codes t a b i n = firsts (placed_code t a b i) (placed_count t a b i n)

-- and in two parts of a table, one of nothing but types, and one of nothing but members
abbrev pub alone : Sections
alone = placed 0 0

unfoldable pub part_code : List ℕ → List ℕ → ℕ → ℕ → ℕ
part_code types members i k = base_at types alone i (member_at members alone k)

-- the four numbers of an entry as one, with its halves exchanged: a base's is its code, and any other's is none
unfoldable pub turned : ℕ → ℕ
turned w = w % span 2 * span 2 + w / span 2

-- places that sections can have, and as many members as a record can
pub record Places (a b n : ℕ) : Type 0 where
  pub types_near : a ≤ 65535
  pub members_near : b ≤ 327675
  pub few : n ≤ 65535

-- the parts are of i types and n members, for which there is room
pub record Parts (types members : List ℕ) (i n : ℕ) (codes : List ℕ) : Type 0 where
  pub types_there : length types ≡ 8 * i
  pub members_there : length members ≡ 2 * n
  pub room : n ≤ length codes
