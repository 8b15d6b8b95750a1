-- 01, "The type table": what checking a table answers. 30 and 31 in reading order, then 32 for any entry, then 33.
use Rattle.std.specs.Prelude.{ℕ, Bool, cond, ◌&&◌, List}
use Rattle.std.specs.Prelude.{Result, Ok, Err}
use Rattle.refusal.specs.declared.Refusal.{Refusal}
use Rattle.refusal.specs.declared.Refusal.TheVariants.{TableEntry, TableSize}
use Rattle.table.specs.declared.Sections.{Sections}
use Rattle.wire.specs.All.{all_below}
use Rattle.table.specs.Layout.{sections_of}
use Rattle.types.specs.Rules.{type_ok}
use Rattle.operations.specs.Rules.{operations_ok}
use Rattle.types.specs.Sizes.{fits_in_size}

-- 01's number for an entry that breaks a rule, where a call answers with a number
abbrev pub rule_broken : ℕ
rule_broken = 32

-- every entry keeps its rule
abbrev pub operations_keep : List ℕ → Sections → Bool
operations_keep t s = operations_ok t s.operations.at s.operations.count s.types.count

unfoldable pub entries_ok : List ℕ → Sections → Bool
entries_ok t s = all_below (type_ok t s) s.types.count && operations_keep t s

-- no type can be too large
unfoldable pub sizes_ok : List ℕ → Sections → Bool
sizes_ok t s = all_below (fits_in_size t s) s.types.count

unfoldable pub judged : List ℕ → Sections → Result Sections Refusal
judged t s = cond (entries_ok t s) (cond (sizes_ok t s) (Ok s) (Err TableSize)) (Err TableEntry)

-- the sections first, and then what is in them
unfoldable pub judging : List ℕ → Result Sections Refusal → Result Sections Refusal
judging t (Err n) = Err n
judging t (Ok s) = judged t s

unfoldable pub checked : List ℕ → Result Sections Refusal
checked t = judging t (sections_of t)
