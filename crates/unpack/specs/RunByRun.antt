-- 02, request 13: the leaves of a payload by the runs of a plan, a run after another.
use Rattle.std.specs.Prelude.{ℕ, zero, suc, min, ◌-◌, ◌≤◌, ◌<◌, ◌*◌, ◌+◌, ◌≡◌, Bool, true, ◌&&◌, List, eqb, length, get_or}
use Rattle.wire.specs.All.{all_below}
use Rattle.table.specs.Leaf.{width}
use Rattle.leaf.specs.Forms.{word_at}
use Rattle.walk.specs.declared.Place.{Place}
use Rattle.walk.specs.declared.Walked.{Walked}
use Rattle.walk.specs.declared.Walked.TheVariants.{Went, Stopped}
use Rattle.walk.specs.Walk.{Step, item, not_allowed, start, walk}
use Rattle.walk.specs.Runs.{code_in, many_in, values_in, taken_by, run_tree, runs_tree}
use Rattle.unpack_leaves.specs.OneCode.{along, filled, run_there}
use Rattle.unpack.specs.Reading.{reader}

-- the word of the k-th leaf of a run that stands at a byte is among those that the run takes
abbrev pub is_taken : List ℕ → List ℕ → ℕ → ℕ → ℕ → Bool
is_taken t b run from k = taken_by t run (word_at (code_in run) b (from + k * width (code_in run)))

-- the run is one leaf that may be any of its code; and the first n runs are, of these codes
abbrev pub is_single : ℕ → Bool
is_single run = eqb (many_in run) 1 && eqb (values_in run) 0

pub record Single (runs codes : List ℕ) (n : ℕ) : Type 0 where
  pub each : (j : ℕ) → j < n → (is_single (get_or runs j 0) ≡ true) × (get_or codes j 0 ≡ code_in (get_or runs j 0))

-- its leaves are all there, allowed and taken
unfoldable pub run_good : List ℕ → List ℕ → ℕ → ℕ → Bool
run_good t b run from = run_there b (code_in run) from (many_in run) && all_below (is_taken t b run from) (many_in run)

-- the step over a leaf of a run, and over the k-th of several runs
abbrev pub leaf_read : List ℕ → List ℕ → ℕ → ℕ → Place → List ℕ → Step
leaf_read b t run k q y = item (reader b) not_allowed (code_in run) (taken_by t run) q y

abbrev pub run_read : List ℕ → List ℕ → List ℕ → ℕ → Place → List ℕ → Step
run_read b t runs k q y = walk (reader b) (run_tree t (get_or runs k 0)) q y

-- and over all of them
abbrev pub runs_read : List ℕ → List ℕ → List ℕ → ℕ → Place → List ℕ → Step
runs_read b t runs k q y = walk (reader b) (runs_tree t runs) q y

-- how many words a walk gave
unfoldable pub words_of : Walked → ℕ
words_of (Went q) = q.to
words_of (Stopped n q) = q.to

-- how many leaves of a run at this place stand before the word `upto`
abbrev pub before : ℕ → Place → ℕ → ℕ
before run q upto = min (many_in run) (upto - q.to)

-- the place behind so many runs, as far as that word, and what is left of the words
unfoldable pub place_at : List ℕ → Place → ℕ → ℕ → Place
place_at runs p upto zero = p
place_at runs p upto (suc k) = along (code_in (get_or runs k 0)) (place_at runs p upto k) (before (get_or runs k 0) (place_at runs p upto k) upto)

unfoldable pub stored_upto : List ℕ → List ℕ → Place → ℕ → ℕ → List ℕ → List ℕ
stored_upto b runs p upto zero x = x
stored_upto b runs p upto (suc k) x =
    filled b (code_in (get_or runs k 0)) (place_at runs p upto k) (before (get_or runs k 0) (place_at runs p upto k) upto) (stored_upto b runs p upto k x)

-- all leaves before that word have their bytes, so that no place is past the end
abbrev pub Within : List ℕ → List ℕ → Place → ℕ → Type 0
Within b runs p upto = (k : ℕ) → k ≤ length runs → (place_at runs p upto k).from ≤ length b

-- the place behind so many runs from the start, and what is left of the words where the leaves of all of them are stored
unfoldable pub whole_at : List ℕ → ℕ → Place
whole_at runs zero = start
whole_at runs (suc k) = along (code_in (get_or runs k 0)) (whole_at runs k) (many_in (get_or runs k 0))

unfoldable pub stored_whole : List ℕ → List ℕ → ℕ → List ℕ → List ℕ
stored_whole b runs zero x = x
stored_whole b runs (suc k) x = filled b (code_in (get_or runs k 0)) (whole_at runs k) (many_in (get_or runs k 0)) (stored_whole b runs k x)
