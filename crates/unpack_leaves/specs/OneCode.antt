-- Leaves of one base code, one behind another.
use Rattle.std.specs.Prelude.{ℕ, zero, suc, ◌+◌, ◌*◌, Bool, ◌&&◌, List, leb, length}
use Rattle.wire.specs.All.{all_below}
use Rattle.table.specs.Leaf.{width, allowed}
use Rattle.leaf.specs.Choice.{among_at}
use Rattle.leaf.specs.Forms.{word_at}
use Rattle.walk.specs.declared.Place.{Place}
use Rattle.unpack_leaves.specs.Leaves.{stored}

-- where the k-th stands, whether its word is allowed, and what is left of the words behind k of them
abbrev pub along : ℕ → Place → ℕ → Place
along code p k = record { from = p.from + k * width code; to = p.to + k }

abbrev pub is_good : List ℕ → ℕ → ℕ → ℕ → Bool
is_good b code from k = allowed code (word_at code b (from + k * width code))

-- and whether it is one of the n values that stand at p in a table
abbrev pub is_among : List ℕ → ℕ → ℕ → List ℕ → ℕ → ℕ → ℕ → Bool
is_among t p n b code from k = among_at t p n (word_at code b (from + k * width code))

unfoldable pub filled : List ℕ → ℕ → Place → ℕ → List ℕ → List ℕ
filled b code p zero x = x
filled b code p (suc k) x = stored b code (along code p k) (filled b code p k x)

-- so many are all there and allowed
unfoldable pub run_there : List ℕ → ℕ → ℕ → ℕ → Bool
run_there b code from n = leb (from + n * width code) (length b) && all_below (is_good b code from) n

-- so many are all there, and each is one of those values
unfoldable pub run_among : List ℕ → ℕ → ℕ → List ℕ → ℕ → ℕ → ℕ → Bool
run_among t p n b code from m = leb (from + m * width code) (length b) && all_below (is_among t p n b code from) m
