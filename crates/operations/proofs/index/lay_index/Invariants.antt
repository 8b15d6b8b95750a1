-- `operations::index::lay_index` meets its contract: the words of the first i entries are laid.
-- Assumes nothing.
use mathlib.Core.Path.{◌≡◌}
use Rattle.operations.specs.Entries.{op_place}
use Rattle.operations.specs.Search.{indexed}
use Rattle.operations.proofs.index.lay_index.Given as goal

abbrev pub invariant-loop-i : goal.invariant-loop-i
invariant-loop-i l = (l.index ≡ indexed l.table l.at l.i l.initial.index) × (l.place ≡ op_place l.table l.at l.i)
