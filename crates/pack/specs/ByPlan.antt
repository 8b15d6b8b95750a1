-- 02, request 13: writing by the runs of a plan: a run whose words are all taken, and what is stored of runs.
use Rattle.std.specs.Prelude.{ℕ, zero, suc, min, ◌+◌, ◌-◌, ◌≤◌, ◌<◌, ◌≡◌, true, List, [], ◌∷◌, length, get_or}
use Rattle.leaf.specs.Choice.{among_at}
use Rattle.walk.specs.declared.Place.{Place}
use Rattle.walk.specs.Runs.{code_in, many_in, taken_by, runs_tree}
use Rattle.walk.specs.Walk.{Step, start, walk}
use Rattle.pack.specs.JudgedRuns.{AllThere}
use Rattle.pack_leaves.specs.StoredRuns.{behind_all, stored_all}
use Rattle.pack.specs.Writing.{writer}

-- so many words from the from-th on are among the n values that stand at p, and are taken by a run, of those that its code allows
abbrev pub AllAmong : List ℕ → List ℕ → ℕ → ℕ → ℕ → ℕ → Type 0
AllAmong ws t p n from many = (k : ℕ) → k < many → among_at t p n (get_or ws (from + k) 0) ≡ true

abbrev pub AllTaken : List ℕ → List ℕ → ℕ → ℕ → ℕ → Type 0
AllTaken ws t w from many = (k : ℕ) → k < many → taken_by t w (get_or ws (from + k) 0) ≡ true

-- a run's words, from the from-th on, are there, and a leaf of it takes each
pub record RunTaken (ws t : List ℕ) (w from : ℕ) : Type 0 where
  pub inside : from + many_in w ≤ length ws
  pub there : AllThere ws (code_in w) from (many_in w)
  pub taken : AllTaken ws t w from (many_in w)

-- the step over all of several runs
abbrev pub runs_written : List ℕ → List ℕ → List ℕ → ℕ → Place → List ℕ → Step
runs_written ws t rs k q y = walk (writer ws) (runs_tree t rs) q y

-- what is left of the bytes where the leaves of runs, from p on, are stored up to a word
unfoldable pub stored_runs : List ℕ → List ℕ → Place → ℕ → List ℕ → List ℕ
stored_runs ws [] p upto x = x
stored_runs ws (w ∷ rs) p upto x =
    stored_runs ws rs (behind_all (code_in w) p (many_in w)) upto (stored_all ws (code_in w) p (min (many_in w) (upto - p.from)) x)

-- the place behind so many runs from the start, and what is left of the bytes where the leaves of all of them are stored
unfoldable pub whole_at : List ℕ → ℕ → Place
whole_at rs zero = start
whole_at rs (suc k) = behind_all (code_in (get_or rs k 0)) (whole_at rs k) (many_in (get_or rs k 0))

unfoldable pub stored_whole : List ℕ → List ℕ → ℕ → List ℕ → List ℕ
stored_whole ws rs zero x = x
stored_whole ws rs (suc k) x = stored_all ws (code_in (get_or rs k 0)) (whole_at rs k) (many_in (get_or rs k 0)) (stored_whole ws rs k x)
