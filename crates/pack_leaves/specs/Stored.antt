-- Leaves of base codes, one behind another, and the words that are written as them.
use Rattle.std.specs.Prelude.{ℕ, suc, ◌+◌, ◌<◌, ◌≡◌, Bool, true, ◌&&◌, cond, List, [], ◌∷◌, ltb, length, get_or}
use Rattle.wire.specs.Bytes.{written}
use Rattle.table.specs.Leaf.{width, allowed}
use Rattle.leaf.specs.Forms.{form_of}
use Rattle.walk.specs.declared.Place.{Place}
use Rattle.walk.specs.Walk.{Step, on}

-- the next word is there, and a leaf of the base code takes it
unfoldable pub is_there : List ℕ → ℕ → ℕ → Bool
is_there ws code from = ltb from (length ws) && allowed code (get_or ws from 0)

-- the place behind it, and what is left of the bytes
abbrev pub behind : ℕ → Place → Place
behind code p = record { from = p.from + 1; to = p.to + width code }

abbrev pub stored : List ℕ → ℕ → Place → List ℕ → List ℕ
stored ws code p x = written x p.to (form_of code (get_or ws p.from 0))

-- how many leaves of these codes, from the first on, take their words, which stand from the from-th on
unfoldable pub taken_count : List ℕ → List ℕ → ℕ → ℕ
taken_count ws [] from = 0
taken_count ws (c ∷ cs) from = cond (is_there ws c from) (suc (taken_count ws cs (from + 1))) 0

-- leaves of base codes, one behind another: where their bytes end, that each takes its word from the from-th on, and what is left
-- of the bytes
unfoldable pub ends : List ℕ → ℕ → ℕ
ends [] to = to
ends (c ∷ cs) to = ends cs (to + width c)

unfoldable pub all_taken : List ℕ → List ℕ → ℕ → Bool
all_taken ws [] from = true
all_taken ws (c ∷ cs) from = is_there ws c from && all_taken ws cs (from + 1)

unfoldable pub laid : List ℕ → List ℕ → Place → List ℕ → List ℕ
laid ws [] p x = x
laid ws (c ∷ cs) p x = laid ws cs (behind c p) (stored ws c p x)

-- each step of a walk from the m-th on writes a leaf of the next code, where its word is there
abbrev pub WritesEach : List ℕ → List ℕ → ℕ → (ℕ → Place → List ℕ → Step) → Type 0
WritesEach ws codes m f = (k : ℕ) (q : Place) (y : List ℕ) → k < length codes → is_there ws (get_or codes k 0) q.from ≡ true → f (m + k) q y
    ≡ on (behind (get_or codes k 0) q) (stored ws (get_or codes k 0) q y)
