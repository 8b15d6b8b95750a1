-- How the code lays runs out: those of a type behind those of the types before it, in the same words.
use Rattle.std.specs.Prelude.{ℕ, zero, suc, ◌+◌, ◌-◌, ◌≤◌, ◌<◌, ◌≡◌, Bool, cond, List, [], ◌∷◌, ◌++◌, ltb, length, get_or, take, drop}
use Rattle.table.specs.declared.Sections.{Sections}
use Rattle.table.specs.declared.Entry.{Entry}
use Rattle.table.specs.Entries.{member_at}
use Rattle.walk.specs.Runs.{many_in}
use Rattle.plan.specs.Leaves.{sum_below, leaves}
use Rattle.plan.specs.Layout.{all_runs, index_word}

-- the words from a place on to another, and how many leaves runs have together
unfoldable pub between : ℕ → ℕ → List ℕ → List ℕ
between a b l = drop a (take b l)

unfoldable pub many_of : List ℕ → ℕ
many_of [] = 0
many_of (x ∷ xs) = many_in x + many_of xs

-- runs that stand from one place on to another, and as many words as are still to come behind them
pub record Room (l : List ℕ) (from end words many : ℕ) : Type 0 where
  pub order : from ≤ end
  pub fits : end + words ≤ length l
  pub few : many_of (between from end l) + many < 65536

-- the runs of type c, a type before type i, where each type's start is known
unfoldable pub runs_from : List ℕ → List ℕ → ℕ → ℕ → List ℕ
runs_from l starts i c = cond (ltb c i) (between (get_or starts c 0) (get_or starts (c + 1) 0) l) []

-- a row's k-th part: a record's member, or an element
unfoldable pub part_at : List ℕ → Sections → Entry → Bool → ℕ → ℕ
part_at t s e is_record k = cond is_record (member_at t s (e.first + k)) e.of

unfoldable pub part_runs : List ℕ → Sections → Entry → Bool → List ℕ → List ℕ → ℕ → ℕ → List ℕ
part_runs t s e is_record l starts i k = runs_from l starts i (part_at t s e is_record k)

-- the starts are those of types that stand before a place, in order
pub record Before (starts : List ℕ) (i from : ℕ) : Type 0 where
  pub long : i < length starts
  pub order : (c : ℕ) → c < i → get_or starts c 0 ≤ get_or starts (c + 1) 0
  pub below : (c : ℕ) → c < i → get_or starts (c + 1) 0 ≤ from

-- there is room for the runs of n parts behind a place, each of no more runs than leaves
pub record Parts (f : ℕ → List ℕ) (n from : ℕ) (l : List ℕ) : Type 0 where
  pub thin : (k : ℕ) → k < n → length (f k) ≤ many_of (f k)
  pub few : sum_below (λ k. many_of (f k)) n < 65536
  pub fits : from + sum_below (λ k. many_of (f k)) n ≤ length l

-- where each type's runs start, of those below n
unfoldable pub starts_of : List ℕ → Sections → ℕ → List ℕ
starts_of t s zero = []
starts_of t s (suc n) = starts_of t s n ++ (length (all_runs t s n) ∷ [])

-- the index of the first n types, by where their runs start and how many leaves they have
unfoldable pub index_of : List ℕ → List ℕ → ℕ → ℕ → List ℕ
index_of counts starts before zero = []
index_of counts starts before (suc n) =
    index_of counts starts before n
    ++ (index_word (before + get_or starts n 0) (get_or starts (n + 1) 0 - get_or starts n 0) (get_or counts n 0) ∷ [])

-- what stands in front of the runs
abbrev pub front_of : List ℕ → List ℕ → List ℕ
front_of counts starts = length counts ∷ index_of counts starts (1 + length counts) (length counts)

-- the most runs that all types can have
abbrev pub most_runs : ℕ
most_runs = 131072

-- the words hold the runs of the types below i, and there is room for those of type i
pub record Laid (t : List ℕ) (s : Sections) (i : ℕ) (l starts : List ℕ) (end : ℕ) : Type 0 where
  pub held : take end l ≡ all_runs t s i
  pub ends : end ≡ length (all_runs t s i)
  pub starting : starts ≡ starts_of t s (i + 1)
  pub room : end + leaves t s i ≤ length l
