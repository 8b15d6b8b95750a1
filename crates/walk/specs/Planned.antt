-- 02, request 13: plans in lent words, and the walk that goes by them. First stands how many types the index has, then a word for
-- each, then the runs. Any words are plans: those of a type are where its word of the index says, and none where they would lie
-- outside.
use Rattle.std.specs.Prelude.{ℕ, zero, suc, ◌+◌, ◌/◌, ◌%◌, Bool, cond, List, [], ◌∷◌, ◌++◌, ltb, leb, length, get_or, take, drop}
use Rattle.table.specs.declared.Sections.{Sections}
use Rattle.walk.specs.declared.Met.{Met}
use Rattle.walk.specs.declared.Met.TheVariants.{Leaf, Members, Elements, Broken}
use Rattle.walk.specs.declared.Place.{Place}
use Rattle.walk.specs.declared.plans.Plan.{Plan}
use Rattle.walk.specs.Tree.{Tree, broken, look, tree_of}
use Rattle.walk.specs.Runs.{runs_tree}
use Rattle.walk.specs.Walk.{Step, Codec, walk}

-- a type's word of the index, and what it says, from the lowest bits on: 16 for how many leaves the type has, 16 for how many
-- runs, and 32 for the word at which the first stands
unfoldable pub indexed : List ℕ → ℕ → ℕ
indexed ps i = cond (ltb i (get_or ps 0 0)) (get_or ps (i + 1) 0) 0

abbrev pub leaves_in : ℕ → ℕ
leaves_in w = w % 65536

abbrev pub runs_in : ℕ → ℕ
runs_in w = w / 65536 % 65536

abbrev pub first_in : ℕ → ℕ
first_in w = w / 4294967296

-- the plan that the index says, where it lies in the words
unfoldable pub lying : ℕ → ℕ → ℕ → Plan
lying n first runs = cond (leb (first + runs) n) (record { first = first; runs = runs }) (record { first = 0; runs = 0 })

unfoldable pub plan_of : List ℕ → ℕ → Plan
plan_of ps i = lying (length ps) (first_in (indexed ps i)) (runs_in (indexed ps i))

unfoldable pub is_planned : List ℕ → ℕ → Bool
is_planned ps i = ltb 0 (plan_of ps i).runs

-- its runs, and the tree that they are
unfoldable pub runs_of : List ℕ → ℕ → List ℕ
runs_of ps i = take (plan_of ps i).runs (drop (plan_of ps i).first ps)

unfoldable pub plan_tree : List ℕ → List ℕ → ℕ → Tree
plan_tree t ps i = runs_tree t (runs_of ps i)

-- the tree of what was met at type i, where records and arrays that have a plan are that
unfoldable pub tree_by : List ℕ → List ℕ → Sections → ℕ → List Tree → Met → Tree
tree_by ps t s i known (Leaf e) = tree_of t s known (Leaf e)
tree_by ps t s i known (Members e) = cond (is_planned ps i) (plan_tree t ps i) (tree_of t s known (Members e))
tree_by ps t s i known (Elements e) = cond (is_planned ps i) (plan_tree t ps i) (tree_of t s known (Elements e))
tree_by ps t s i known Broken = broken

unfoldable pub trees_by : List ℕ → List ℕ → Sections → ℕ → List Tree
trees_by ps t s zero = []
trees_by ps t s (suc n) = trees_by ps t s n ++ (tree_by ps t s n (trees_by ps t s n) (look t s n) ∷ [])

-- type i, and type c as a member or an element of type i
unfoldable pub type_by : List ℕ → List ℕ → Sections → ℕ → Tree
type_by ps t s i = tree_by ps t s i (trees_by ps t s i) (look t s i)

unfoldable pub child_by : List ℕ → List ℕ → Sections → ℕ → ℕ → Tree
child_by ps t s i c = get_or (trees_by ps t s i) c broken

-- what was met at type i
unfoldable pub walk_by : Codec → List ℕ → List ℕ → Sections → ℕ → Met → Place → List ℕ → Step
walk_by c ps t s i m p x = walk c (tree_by ps t s i (trees_by ps t s i) m) p x
