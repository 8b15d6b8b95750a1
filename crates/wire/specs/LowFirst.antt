-- Numbers whose low byte comes first, and what makes them big endian: the bytes in the other order. Of the public functions only
-- those say so that compare numbers as their bytes lie.
use Rattle.std.specs.Prelude.{ℕ, zero, suc, ◌+◌, ◌*◌, ◌/◌, ◌%◌, ◌^◌, List, [], ◌∷◌, ◌++◌, get_or}
use Rattle.wire.specs.Bytes.{span}

-- the number in the 2 ^ k bytes at p: its first half is the less significant
abbrev pub little : ℕ → List ℕ → ℕ → ℕ
little zero s p = get_or s p 0
little (suc k) s p = little k s (p + 2 ^ k) * span k + little k s p

-- the 2 ^ k bytes of the number x, least significant first
abbrev pub low_first : ℕ → ℕ → List ℕ
low_first zero x = x ∷ []
low_first (suc k) x = low_first k (x % span k) ++ low_first k (x / span k)

-- the number with the 2 ^ k bytes of x in the other order: the halves change places, and each half's bytes change theirs
abbrev pub swapped : ℕ → ℕ → ℕ
swapped zero x = x
swapped (suc k) x = swapped k (x % span k) * span k + swapped k (x / span k)
