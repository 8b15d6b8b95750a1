-- 01, "Numbers given back": input left over, 41, and an output that is too short, 45, are refusals too, and a refusal changes
-- nothing. So all that a walk writes is stored, or nothing.
use Rattle.std.specs.Prelude.{ℕ, Bool, false, ◌&&◌, cond, List, [], leb, length}
use Rattle.walk.specs.declared.Place.{Place}
use Rattle.walk.specs.declared.Walked.{Walked}
use Rattle.walk.specs.declared.Walked.TheVariants.{Went, Stopped}
use Rattle.walk.specs.Tree.{Tree}
use Rattle.walk.specs.Walk.{Codec, start, answer, left, walk}

-- the place is behind all of n bytes or words of input, and there is room up to it
abbrev pub fits : ℕ → ℕ → Place → Bool
fits n room q = leb n q.from && leb q.to room

unfoldable pub is_whole : ℕ → ℕ → Walked → Bool
is_whole n room (Went q) = fits n room q
is_whole n room (Stopped k q) = false

-- the walk is over no room: what it comes to does not depend on what it writes into
unfoldable pub all_or_nothing : Codec → ℕ → Tree → List ℕ → List ℕ
all_or_nothing c n tr x = cond (is_whole n (length x) (answer (walk c tr start []))) (left (walk c tr start x)) x
