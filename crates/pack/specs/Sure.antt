-- What the first walk of packing has seen: a walk that has room to store in is known to go.
use Rattle.std.specs.Prelude.{ℕ, ◌<◌, ◌≡◌, Bool, true, false, List, length}
use Rattle.walk.specs.declared.Walked.{Walked}
use Rattle.walk.specs.declared.Walked.TheVariants.{Went, Stopped}
use Rattle.walk.specs.Walk.{Step, answer}

unfoldable pub is_went : Walked → Bool
is_went (Went q) = true
is_went (Stopped n q) = false

-- over a list that has any room
abbrev pub Sure : List ℕ → Step → Type 0
Sure x st = 0 < length x → is_went (answer st) ≡ true
