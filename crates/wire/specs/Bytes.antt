-- Numbers and runs of bytes in a list of bytes: what `wire` reads and writes. 000, 6.1: all fields are big endian.
use Rattle.std.specs.Prelude.{ℕ, zero, suc, ◌+◌, ◌*◌, ◌/◌, ◌%◌, ◌^◌, ◌<◌, List, [], ◌∷◌, ◌++◌, cond, leb, length, get_or, take, drop, replicate}

-- how many numbers 2 ^ k bytes can hold
abbrev pub span : ℕ → ℕ
span k = 256 ^ (2 ^ k)

-- the number in the 2 ^ k bytes at p: its first half is the more significant. A byte past the end reads as 0
abbrev pub number : ℕ → List ℕ → ℕ → ℕ
number zero s p = get_or s p 0
number (suc k) s p = number k s p * span k + number k s (p + 2 ^ k)

-- the same where all its bytes are there, and 0 where one is past the end
abbrev pub whole : ℕ → List ℕ → ℕ → ℕ
whole k s p = cond (leb (p + 2 ^ k) (length s)) (number k s p) 0

-- the 2 ^ k bytes of the number x, most significant first
abbrev pub bytes : ℕ → ℕ → List ℕ
bytes zero x = x ∷ []
bytes (suc k) x = bytes k (x / span k) ++ bytes k (x % span k)

-- b with zeros behind it, as many bytes as the widest number has
abbrev pub padded : List ℕ → List ℕ
padded b = b ++ drop (length b) (replicate 8 0)

-- s with b written over what stands at p
abbrev pub over : List ℕ → ℕ → List ℕ → List ℕ
over s p b = take p s ++ (b ++ drop (p + length b) s)

-- s with b written at p where it fits, and s as it is where it does not
abbrev pub written : List ℕ → ℕ → List ℕ → List ℕ
written s p b = cond (leb (p + length b) (length s)) (over s p b) s

-- the n bytes of s from p on, and none where s ends before them
abbrev pub part : List ℕ → ℕ → ℕ → List ℕ
part s p n = cond (leb (p + n) (length s)) (take n (drop p s)) []

-- every element is a byte
abbrev pub Octets : List ℕ → Type 0
Octets s = (i : ℕ) → get_or s i 0 < 256
