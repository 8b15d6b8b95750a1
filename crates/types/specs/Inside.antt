-- Sections of types, members and values that lie within the bytes of their table, each within its limit, as those that were found do.
use Rattle.std.specs.Prelude.{ℕ, ◌≤◌, List, length}
use Rattle.table.specs.declared.Sections.{Sections}
use Rattle.table.specs.Layout.{type_width, member_width, value_width, most_types, most_values, section_end}

pub record Lying (t : List ℕ) (s : Sections) : Type 0 where
  pub types : section_end type_width s.types ≤ length t
  pub members : section_end member_width s.members ≤ length t
  pub values : section_end value_width s.values ≤ length t
  pub few_types : s.types.count ≤ most_types
  pub few_values : s.values.count ≤ most_values
