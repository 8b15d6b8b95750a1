-- A run of leaves of one base code: what is stored of it.
use Rattle.std.specs.Prelude.{ℕ, zero, suc, ◌+◌, ◌*◌, List}
use Rattle.table.specs.Leaf.{width}
use Rattle.walk.specs.declared.Place.{Place}
use Rattle.pack_leaves.specs.Stored.{stored}

-- the place behind n of them, and what is left of the bytes
abbrev pub behind_all : ℕ → Place → ℕ → Place
behind_all code p n = record { from = p.from + n; to = p.to + n * width code }

unfoldable pub stored_all : List ℕ → ℕ → Place → ℕ → List ℕ → List ℕ
stored_all ws code p zero x = x
stored_all ws code p (suc n) x = stored ws code (behind_all code p n) (stored_all ws code p n x)
