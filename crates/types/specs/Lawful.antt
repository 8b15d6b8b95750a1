-- Types that are known to keep their rules.
use Rattle.std.specs.Prelude.{◌≡◌, ℕ, ◌+◌, ◌<◌, ◌≤◌, true, List}
use Rattle.table.specs.declared.Sections.{Sections}
use Rattle.wire.specs.All.{all_below}
use Rattle.table.specs.Entries.{member_at}
use Rattle.types.specs.Inside.{Lying}
use Rattle.types.specs.Rules.{type_ok}

-- the types below n do, in sections that lie within the bytes
pub record Lawful (t : List ℕ) (s : Sections) (n : ℕ) : Type 0 where
  pub lie : Lying t s
  pub few : n ≤ s.types.count
  pub keep : all_below (type_ok t s) n ≡ true

-- a record's members are there, and are types below n
pub record Smaller (t : List ℕ) (s : Sections) (n first count : ℕ) : Type 0 where
  pub lie : Lying t s
  pub there : first + count ≤ s.members.count
  pub smaller : (k : ℕ) → k < count → member_at t s (first + k) < n
