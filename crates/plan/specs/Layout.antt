-- 02, request 13: the plans of a table's types, laid out in words: how many types, a word of the index for each, then the runs of each
-- (walk/specs/Planned, walk/specs/Runs). A type's runs are those of its members or of its element one behind another, where two
-- equal ones that meet are one.
use Rattle.std.specs.Prelude.{ℕ, zero, suc, ◌+◌, ◌*◌, ◌/◌, Bool, ◌&&◌, cond, List, [], ◌∷◌, ◌++◌, ltb, eqb, length, get_or}
use Rattle.std.specs.Prelude.{Result, Ok, Err}
use Rattle.refusal.specs.declared.Refusal.{Refusal}
use Rattle.refusal.specs.declared.Refusal.TheVariants.{TableLength}
use Rattle.wire.specs.Bytes.{over}
use Rattle.table.specs.declared.Sections.{Sections}
use Rattle.table.specs.declared.Entry.{Entry}
use Rattle.table.specs.Entries.{enum_kind, member_at}
use Rattle.table.specs.Layout.{cut_short, within, value_place}
use Rattle.walk.specs.declared.Met.{Met}
use Rattle.walk.specs.declared.Met.TheVariants.{Leaf, Members, Elements, Broken}
use Rattle.walk.specs.Tree.{look}
use Rattle.walk.specs.Runs.{code_in, many_in}
use Rattle.plan.specs.Leaves.{sum_below, leaves}

-- a run of one leaf, and that of a leaf's entry
unfoldable pub run_word : ℕ → ℕ → ℕ → ℕ
run_word code values place = code + 16777216 * values + 1099511627776 * place

unfoldable pub leaf_run : Sections → Entry → ℕ
leaf_run s e = run_word e.of e.count (cond (eqb e.kind enum_kind) (value_place s e.first) 0)

-- two runs of equal leaves, and both as one
unfoldable pub alike : ℕ → ℕ → Bool
alike a b = eqb (code_in a) (code_in b) && eqb (a / 16777216) (b / 16777216)

unfoldable pub merged : ℕ → ℕ → ℕ
merged a b = a + 256 * many_in b

-- a run behind others, runs behind others, and the runs of n parts one behind another
unfoldable pub add : List ℕ → ℕ → List ℕ
add [] y = y ∷ []
add (x ∷ []) y = cond (alike x y) (merged x y ∷ []) (x ∷ y ∷ [])
add (x ∷ (z ∷ zs)) y = x ∷ add (z ∷ zs) y

unfoldable pub add_all : List ℕ → List ℕ → List ℕ
add_all xs [] = xs
add_all xs (y ∷ ys) = add_all (add xs y) ys

unfoldable pub row_runs : (ℕ → List ℕ) → ℕ → List ℕ
row_runs f zero = []
row_runs f (suc n) = add_all (row_runs f n) (f n)

-- the runs of what was met at a type that has a plan, by those of the types before it
unfoldable pub runs_met : List ℕ → Sections → List (List ℕ) → Met → List ℕ
runs_met t s known (Leaf e) = leaf_run s e ∷ []
runs_met t s known (Members e) = row_runs (λ k. get_or known (member_at t s (e.first + k)) []) e.count
runs_met t s known (Elements e) = row_runs (λ k. get_or known e.of []) e.count
runs_met t s known Broken = []

unfoldable pub runs_where : ℕ → List ℕ → List ℕ
runs_where many rs = cond (ltb 0 many) rs []

unfoldable pub run_lists : List ℕ → Sections → ℕ → List (List ℕ)
run_lists t s zero = []
run_lists t s (suc n) = run_lists t s n ++ (runs_where (leaves t s n) (runs_met t s (run_lists t s n) (look t s n)) ∷ [])

-- those of type i, and those of the types below n one behind another
unfoldable pub runs : List ℕ → Sections → ℕ → List ℕ
runs t s i = runs_where (leaves t s i) (runs_met t s (run_lists t s i) (look t s i))

unfoldable pub all_runs : List ℕ → Sections → ℕ → List ℕ
all_runs t s zero = []
all_runs t s (suc n) = all_runs t s n ++ runs t s n

-- the index, whose words say where the runs stand behind so many words
unfoldable pub index_word : ℕ → ℕ → ℕ → ℕ
index_word first many leaves = cond (ltb 0 leaves) (4294967296 * first + 65536 * many + leaves) 0

unfoldable pub index : List ℕ → Sections → ℕ → ℕ → List ℕ
index t s before zero = []
index t s before (suc n) =
    index t s before n ++ (index_word (before + length (all_runs t s n)) (length (runs t s n)) (leaves t s n) ∷ [])

-- the words before the runs: a count, and one for each type
abbrev pub front_words : Sections → ℕ
front_words s = 1 + s.types.count

unfoldable pub plans : List ℕ → Sections → List ℕ
plans t s = s.types.count ∷ (index t s (front_words s) s.types.count ++ all_runs t s s.types.count)

-- as many words as they can take: no type has more runs than leaves
unfoldable pub plans_length : List ℕ → Sections → ℕ
plans_length t s = front_words s + sum_below (leaves t s) s.types.count

-- the calls. 30 where the sections do not lie in the bytes, and 10 where the output is too short
abbrev pub too_short : ℕ
too_short = 10

unfoldable pub length_in : List ℕ → Sections → Result ℕ Refusal
length_in t s = cond (within t s) (Ok (plans_length t s)) (Err TableLength)

unfoldable pub laid_number : List ℕ → Sections → ℕ → ℕ
laid_number t s room = cond (within t s) (cond (ltb room (plans_length t s)) too_short 0) cut_short

unfoldable pub laid_out : List ℕ → Sections → List ℕ → List ℕ
laid_out t s ws = cond (eqb (laid_number t s (length ws)) 0) (over ws 0 (plans t s)) ws
