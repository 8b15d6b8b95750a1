-- The worked examples of 000, annex A.3.3, computed over the definitions: how many pieces the three messages make.
-- Assumes nothing.
use Prim.Native.Nat.{ℕ}
use mathlib.Core.Path.{◌≡◌, refl}
use mathlib.Core.List.{List, [], ◌∷◌, map}
use Rattle.binding.specs.Header.{largest_piece}
use Rattle.binding.specs.Cutting.{piece_count}

-- messages of 10,000, 100,000 and 150,000 bytes
abbrev counts : List ℕ
counts = map (λ (m : ℕ). piece_count m largest_piece) (10000 ∷ 100000 ∷ 150000 ∷ [])

pub piece_counts : counts ≡ 1 ∷ 2 ∷ 3 ∷ []
piece_counts = refl
