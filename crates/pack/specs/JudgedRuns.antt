-- A run of words of one base code: how it is judged.
use Rattle.std.specs.Prelude.{ℕ, ◌+◌, ◌<◌, ◌≡◌, true, List}
use Rattle.pack_leaves.specs.Stored.{is_there}

-- n words are there, and a leaf of the base code takes each
abbrev pub AllThere : List ℕ → ℕ → ℕ → ℕ → Type 0
AllThere ws code from n = (k : ℕ) → k < n → is_there ws code (from + k) ≡ true
