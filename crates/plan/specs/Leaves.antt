-- 02, request 13: which types have a plan. Those of at most 512 leaves in whose tree no array with a count stands, and nothing that
-- is broken.
use Rattle.std.specs.Prelude.{ℕ, zero, suc, ◌+◌, ◌*◌, Bool, true, false, ◌&&◌, cond, List, [], ◌∷◌, ◌++◌, ltb, leb, eqb, get_or}
use Rattle.wire.specs.All.{all_below}
use Rattle.table.specs.declared.Sections.{Sections}
use Rattle.table.specs.Entries.{fixed_kind, member_at}
use Rattle.walk.specs.declared.Met.{Met}
use Rattle.walk.specs.declared.Met.TheVariants.{Leaf, Members, Elements, Broken}
use Rattle.walk.specs.Tree.{Tree, leaf, row, array, broken, look}

abbrev pub most_leaves : ℕ
most_leaves = 512

unfoldable pub sum_below : (ℕ → ℕ) → ℕ → ℕ
sum_below f zero = 0
sum_below f (suc n) = sum_below f n + f n

-- a tree's leaves stand at fixed places; how many it has
unfoldable pub is_flat : Tree → Bool
is_flat (leaf code ok) = true
is_flat (row n f) = all_below (λ k. is_flat (f k)) n
is_flat (array most a) = false
is_flat broken = false

unfoldable pub leaf_count : Tree → ℕ
leaf_count (leaf code ok) = 1
leaf_count (row n f) = sum_below (λ k. leaf_count (f k)) n
leaf_count (array most a) = 0
leaf_count broken = 0

unfoldable pub has_plan : Tree → Bool
has_plan tr = is_flat tr && leb 1 (leaf_count tr) && leb (leaf_count tr) most_leaves

-- the same from the table: how many leaves a type has, and 0 where it has no plan, by those of the types before it
unfoldable pub capped : ℕ → ℕ
capped n = cond (leb n most_leaves) n 0

unfoldable pub row_leaves : (ℕ → ℕ) → ℕ → ℕ
row_leaves f n = cond (all_below (λ k. ltb 0 (f k)) n) (capped (sum_below f n)) 0

unfoldable pub leaves_met : List ℕ → Sections → (ℕ → ℕ) → Met → ℕ
leaves_met t s known (Leaf e) = 1
leaves_met t s known (Members e) = row_leaves (λ k. known (member_at t s (e.first + k))) e.count
leaves_met t s known (Elements e) = cond (eqb e.kind fixed_kind) (capped (e.count * known e.of)) 0
leaves_met t s known Broken = 0

unfoldable pub leaf_counts : List ℕ → Sections → ℕ → List ℕ
leaf_counts t s zero = []
leaf_counts t s (suc n) = leaf_counts t s n ++ (leaves_met t s (λ c. get_or (leaf_counts t s n) c 0) (look t s n) ∷ [])

unfoldable pub leaves : List ℕ → Sections → ℕ → ℕ
leaves t s i = leaves_met t s (λ c. get_or (leaf_counts t s i) c 0) (look t s i)
