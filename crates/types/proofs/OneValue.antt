-- What the rule of one value comes to.
-- Assumes nothing.
use Rattle.std.proofs.Common.{◌≡◌, ℕ, Bool, List, ap, ◌∙◌}
use Rattle.table.specs.declared.Sections.{Sections}
use Rattle.table.specs.declared.Entry.{Entry}
use Rattle.table.specs.Leaf.{allowed}
use Rattle.types.specs.Values.{value_of, value_ok}

-- the value as it is read
pub judged_value : (t : List ℕ) (s : Sections) (e : Entry) (k v : ℕ) (r : Bool) → v ≡ value_of t s e k → r ≡ allowed e.of v → r ≡ value_ok t s e k
unfolding value_ok
judged_value t s e k v r a b = b ∙ ap (allowed e.of) a
