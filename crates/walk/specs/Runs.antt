-- 02, request 13: leaves one behind another as runs of equal ones, a word each. A run is a base code, how many leaves, and of an
-- enum how many values it has and where in the table's bytes they stand; any word is a run.
use Rattle.std.specs.Prelude.{ℕ, ◌+◌, ◌/◌, ◌%◌, Bool, true, cond, List, eqb, length, get_or}
use Rattle.leaf.specs.Choice.{among_at}
use Rattle.walk.specs.Tree.{Tree, leaf, row}

-- from the lowest bits on: 8 for the code, 16 for how many leaves there are behind the first, so that no run is without one, 16 for
-- how many values, and 24 for the first value's byte
abbrev pub code_in : ℕ → ℕ
code_in w = w % 256

abbrev pub many_in : ℕ → ℕ
many_in w = 1 + w / 256 % 65536

abbrev pub values_in : ℕ → ℕ
values_in w = w / 16777216 % 65536

abbrev pub place_in : ℕ → ℕ
place_in w = w / 1099511627776

-- the words that a run's leaves take, of those that its code allows: its own values where it has some, and else all
unfoldable pub taken_by : List ℕ → ℕ → ℕ → Bool
taken_by t w v = cond (eqb (values_in w) 0) true (among_at t (place_in w) (values_in w) v)

-- a run, and runs one behind another, as trees
unfoldable pub run_tree : List ℕ → ℕ → Tree
run_tree t w = row (many_in w) (λ k. leaf (code_in w) (taken_by t w))

unfoldable pub runs_tree : List ℕ → List ℕ → Tree
runs_tree t ws = row (length ws) (λ k. run_tree t (get_or ws k 0))
