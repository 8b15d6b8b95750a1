-- A walk each of whose steps reads a leaf of a base code.
use Rattle.std.specs.Prelude.{ℕ, ◌+◌, ◌<◌, ◌≡◌, true, List, length, get_or}
use Rattle.walk.specs.declared.Place.{Place}
use Rattle.walk.specs.Walk.{Step, on}
use Rattle.unpack_leaves.specs.Leaves.{is_there, behind, stored}

-- each step of a walk reads a leaf of that code, where it is there
abbrev pub Reads : List ℕ → ℕ → (ℕ → Place → List ℕ → Step) → Type 0
Reads b code f = (k : ℕ) (q : Place) (y : List ℕ) → is_there b code q.from ≡ true → f k q y ≡ on (behind code q) (stored b code q y)

-- and of the codes of a list from the m-th step on
abbrev pub ReadsCodes : List ℕ → List ℕ → ℕ → (ℕ → Place → List ℕ → Step) → Type 0
ReadsCodes b codes m f = (j : ℕ) (q : Place) (y : List ℕ) → j < length codes → is_there b (get_or codes j 0) q.from ≡ true → f (m + j) q y
    ≡ on (behind (get_or codes j 0) q) (stored b (get_or codes j 0) q y)
