-- `operations::entries::end` meets its contract: the i-th entry stands where the i entries before it end.
-- Assumes nothing.
use mathlib.Core.Path.{◌≡◌}
use Rattle.operations.specs.Entries.{op_place}
use Rattle.operations.proofs.entries.end.Given as goal

abbrev pub invariant-loop-i : goal.invariant-loop-i
invariant-loop-i l = l.place ≡ op_place l.table l.at l._i
