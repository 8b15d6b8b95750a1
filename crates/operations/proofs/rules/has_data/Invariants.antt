-- `operations::rules::has_data` meets its contract: none of the first i operations is versioned data.
-- Assumes nothing.
use mathlib.Core.Path.{◌≡◌}
use mathlib.Core.Bool.{true}
use Rattle.wire.specs.All.{all_below}
use Rattle.operations.specs.Entries.{op_place}
use Rattle.operations.specs.Rules.{not_data}
use Rattle.operations.proofs.rules.has_data.Given as goal

abbrev pub invariant-loop-i : goal.invariant-loop-i
invariant-loop-i l = (all_below (not_data l.table l.at) l._i ≡ true) × (l.place ≡ op_place l.table l.at l._i)
