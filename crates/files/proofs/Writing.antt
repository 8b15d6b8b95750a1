-- What writing asks at its returns.
-- Assumes nothing.
use Prim.Native.Nat.{ℕ}
use mathlib.Core.Path.{◌≡◌, ap, ◌∙◌}
use mathlib.Core.Bool.{Bool, true, false}
use mathlib.Core.List.{List, []}
use lib.ListN.{length}

-- bytes were there to be written
pub some_bytes : (s bytes : List ℕ) → bytes ≡ s → (length bytes ≡ 0 → ⊥) → s ≡ [] → ◌≡◌ {A = Bool} false true
some_bytes s bytes e z f = absurd (z (ap length (e ∙ f)))
