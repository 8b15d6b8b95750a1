-- 33, "a type can exceed 65,536 bytes": 01's largest size of a type, in 01's words and numbers, for every type that keeps its rule
-- (specs/Rules32). The theorem is in proofs/Sizes33.antt; that 33 is given just where one exceeds 65,536, in specs/TableOrder.
use Rattle.std.specs.Prelude.{ℕ, zero, suc, ◌+◌, ◌*◌, ◌≤◌, ◌≡◌, List, [], ◌∷◌, get_or}
use Rattle.table.specs.declared.Sections.{Sections}
use Rattle.types.specs.Sizes.{largest}
use Rattle.promises.specs.Rules32.{kind_of, of_of, first_of, count_of, member_in, TypeKeeps}

-- the bytes of each base code, from 0 on: boolean8, int8, char8, int16, int32, int64, uint8, byte, uint16, uint32, uint64, float32, double64
abbrev pub widths : List ℕ
widths = 1 ∷ 1 ∷ 1 ∷ 2 ∷ 4 ∷ 8 ∷ 1 ∷ 1 ∷ 2 ∷ 4 ∷ 8 ∷ 4 ∷ 8 ∷ []

-- the sum of the first n
abbrev pub total : (ℕ → ℕ) → ℕ → ℕ
total f zero = 0
total f (suc n) = total f n + f n

-- "Largest size: a record's sum, a fixed array's product, an array's product plus 4"
pub record LargestIs (t : List ℕ) (s : Sections) (i : ℕ) : Type 0 where
  pub base_or_enum : kind_of t s i ≤ 1 → largest t s i ≡ get_or widths (of_of t s i) 0
  pub of_members : kind_of t s i ≡ 2 → largest t s i ≡ total (λ k. largest t s (member_in t s (first_of t s i + k))) (count_of t s i)
  pub fixed_array : kind_of t s i ≡ 3 → largest t s i ≡ count_of t s i * largest t s (of_of t s i)
  pub array : kind_of t s i ≡ 4 → largest t s i ≡ count_of t s i * largest t s (of_of t s i) + 4

abbrev pub Sizes33 : Type 0
Sizes33 = (t : List ℕ) (s : Sections) (i : ℕ) → TypeKeeps t s i → LargestIs t s i
