-- What one read may answer. Which bytes it brought is the system's to know.
use Prim.{Unit}
use Rattle.std.specs.Prelude.{ℕ, ◌+◌, ◌≤◌, ◌<◌}
use Rattle.files.specs.declared.Came.{Came}
use Rattle.files.specs.declared.Came.TheVariants.{More, Nothing, Failed}

-- how many bytes it brought
abbrev pub came_in : Came → ℕ
came_in (More n) = n
came_in Nothing = 0
came_in (Failed e) = 0

-- with `filled` bytes of `all` filled: what came is some bytes, and they fit; and only a read that was made can fail, which
-- is none where the buffer is full
abbrev pub Brought : ℕ → ℕ → Came → Type 0
Brought filled all (More n) = (0 < n) × (filled + n ≤ all)
Brought filled all Nothing = Unit {0}
Brought filled all (Failed e) = filled < all
