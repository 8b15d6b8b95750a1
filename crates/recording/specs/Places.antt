-- Where text goes in an output that is filled from its start.
use Rattle.std.specs.Prelude.{ℕ, ◌+◌, cond, List, [], ◌∷◌, ◌++◌, length, nat_le}
use Rattle.wire.specs.Bytes.{written}

-- where the next goes once this one was written at p of an output of n bytes: what does not fit is not written
abbrev pub behind : ℕ → ℕ → List ℕ → ℕ
behind n p word = cond (nat_le (p + length word) n) (p + length word) p

-- a word behind a space
abbrev pub spaced : List ℕ → List ℕ
spaced word = 32 ∷ word

-- a number behind a space is no longer
abbrev pub field_limit : ℕ
field_limit = 21

abbrev pub joined : List (List ℕ) → List ℕ
joined [] = []
joined (w ∷ ws) = w ++ joined ws

-- words put one behind another from p on, each where it fits: the output, and where the next goes
unfoldable pub put_all : List (List ℕ) → List ℕ → ℕ → List ℕ
put_all [] s p = s
put_all (w ∷ ws) s p = put_all ws (written s p w) (behind (length s) p w)

unfoldable pub end_all : List (List ℕ) → List ℕ → ℕ → ℕ
end_all [] s p = p
end_all (w ∷ ws) s p = end_all ws (written s p w) (behind (length s) p w)
