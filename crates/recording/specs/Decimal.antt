-- A number as it stands in a line: decimal digits in ASCII, the most significant first, with no zero before them.
use Rattle.std.specs.Prelude.{ℕ, zero, suc, ◌+◌, ◌-◌, ◌*◌, ◌/◌, ◌%◌, cond, List, [], ◌∷◌, ◌++◌, nat_lt}

abbrev pub base : ℕ
base = 10

-- 20 digits hold every number of 64 bits
abbrev pub digit_limit : ℕ
digit_limit = 20

-- the ASCII code of a digit
abbrev pub glyph : ℕ → ℕ
glyph d = 48 + d

-- n in at most k digits: the digits of n / 10, where that is not 0, and then the last digit
unfoldable pub digits : ℕ → ℕ → List ℕ
digits zero n = []
digits (suc k) n = cond (nat_lt n base) (glyph n ∷ []) (digits k (n / base) ++ (glyph (n % base) ∷ []))

abbrev pub decimal : ℕ → List ℕ
decimal n = digits digit_limit n

-- the number that a list of digits stands for, where n stands before them
abbrev pub value_from : ℕ → List ℕ → ℕ
value_from n [] = n
value_from n (g ∷ gs) = value_from (n * base + (g - 48)) gs

abbrev pub value_of : List ℕ → ℕ
value_of gs = value_from 0 gs
