-- `operations::rules::are_good` meets its contract: the first i operations have passed, and the last ID is carried along.
-- Assumes nothing.
use mathlib.Core.Path.{◌≡◌}
use mathlib.Core.Bool.{true}
use Rattle.wire.specs.All.{all_below}
use Rattle.operations.specs.Entries.{op_place, id_at}
use Rattle.operations.specs.Rules.{operation_ok}
use Rattle.wire.proofs.Rising.{Carried}
use Rattle.operations.proofs.rules.are_good.Given as goal

abbrev pub invariant-loop-i : goal.invariant-loop-i
invariant-loop-i l =
    (all_below (operation_ok l.table l.at l.types) l.i ≡ true) × Carried (id_at l.table l.at) l.i l.last × (l.place ≡ op_place l.table l.at l.i)
