-- Leaves of a payload by their base codes, one behind another, with no table.
use Rattle.std.specs.Prelude.{ℕ, suc, ◌+◌, Bool, true, ◌&&◌, cond, List, [], ◌∷◌, leb, length}
use Rattle.wire.specs.Bytes.{written}
use Rattle.table.specs.Leaf.{width, allowed}
use Rattle.leaf.specs.Forms.{word_at}
use Rattle.walk.specs.declared.Place.{Place}

-- a leaf of a base code is there, and its word is allowed
unfoldable pub is_there : List ℕ → ℕ → ℕ → Bool
is_there b code from = leb (from + width code) (length b) && allowed code (word_at code b from)

-- its word where all its bytes are there, and 0 where one is past the end
abbrev pub whole_word : ℕ → List ℕ → ℕ → ℕ
whole_word code b from = cond (leb (from + width code) (length b)) (word_at code b from) 0

-- the place behind it, and what is left of the words
abbrev pub behind : ℕ → Place → Place
behind code p = record { from = p.from + width code; to = p.to + 1 }

abbrev pub stored : List ℕ → ℕ → Place → List ℕ → List ℕ
stored b code p x = written x p.to (word_at code b p.from ∷ [])

-- leaves of these codes, one behind another from a byte on: where they end, that all are there and allowed, and what is left of
-- the words
unfoldable pub ends : List ℕ → ℕ → ℕ
ends [] from = from
ends (c ∷ cs) from = ends cs (from + width c)

unfoldable pub all_there : List ℕ → List ℕ → ℕ → Bool
all_there b [] from = true
all_there b (c ∷ cs) from = is_there b c from && all_there b cs (from + width c)

unfoldable pub laid : List ℕ → List ℕ → Place → List ℕ → List ℕ
laid b [] p x = x
laid b (c ∷ cs) p x = laid b cs (behind c p) (stored b c p x)

-- the place behind all of them
abbrev pub past : List ℕ → Place → Place
past cs p = record { from = ends cs p.from; to = p.to + length cs }

-- how many leaves of these codes, from the first on, are there and allowed
unfoldable pub there_count : List ℕ → List ℕ → ℕ → ℕ
there_count b [] from = 0
there_count b (c ∷ cs) from = cond (is_there b c from) (suc (there_count b cs (from + width c))) 0

-- how many have all their bytes
unfoldable pub whole_count : List ℕ → List ℕ → ℕ → ℕ
whole_count b [] from = 0
whole_count b (c ∷ cs) from = cond (leb (from + width c) (length b)) (suc (whole_count b cs (from + width c))) 0
