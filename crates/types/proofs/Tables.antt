-- What judging the entries and the sizes of a table comes to, return by return.
-- Assumes nothing.
use Rattle.std.proofs.Common.{◌≡◌, ℕ, Bool, true, false, List, refl}
use Rattle.std.specs.Prelude.{Ok, Err}
use Rattle.refusal.specs.declared.Refusal.TheVariants.{TableEntry, TableSize}
use Rattle.table.specs.declared.Sections.{Sections}
use Rattle.wire.specs.All.{all_below}
use Rattle.types.specs.Rules.{type_ok}
use Rattle.types.specs.Table.{operations_keep, entries_ok, sizes_ok, judged}

module _ (t : List ℕ) (s : Sections) where
  module _ (a : Bool) (p : a ≡ all_below (type_ok t s) s.types.count) where
    pub types-then : (r : Bool) → a ≡ true → r ≡ operations_keep t s → r ≡ entries_ok t s
    unfolding entries_ok
    types-then r h q = rw (← p, h) q

    pub types-bad : a ≡ false → false ≡ entries_ok t s
    unfolding entries_ok
    types-bad h = rw (← p, h) refl

  module _ (a : Bool) (p : a ≡ entries_ok t s) where
    pub bad-entry : a ≡ false → Err TableEntry ≡ judged t s
    unfolding judged
    bad-entry h = rw (← p, h) refl

    module _ (h : a ≡ true) (b : Bool) (q : b ≡ sizes_ok t s) where
      pub bad-size : b ≡ false → Err TableSize ≡ judged t s
      unfolding judged
      bad-size g = rw (← p, h, ← q, g) refl

      pub good-table : b ≡ true → Ok s ≡ judged t s
      unfolding judged
      good-table g = rw (← p, h, ← q, g) refl

-- every way in which the entries and the sizes can be judged
pub ruleset judgements = (bad-entry, bad-size, good-table)
