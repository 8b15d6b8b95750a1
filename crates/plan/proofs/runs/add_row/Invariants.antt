-- `plan::runs::add_row` meets its contract: the runs of the first k parts have been added.
-- Assumes nothing.
use Prim.Native.Nat.{◌+◌}
use mathlib.Core.Path.{◌≡◌}
use lib.ListN.{length}
use Rattle.wire.specs.Bytes.{over}
use Rattle.plan.specs.Layout.{row_runs}
use Rattle.plan.specs.Laying.{part_runs}
use Rattle.plan.proofs.runs.add_row.Given as goal

abbrev pub invariant-loop-k : goal.invariant-loop-k
invariant-loop-k l =
    (l.words ≡ over l.initial.words l.from (row_runs (part_runs l.table l.s l.e l.is_record l.initial.words l.starts l.i) l.k))
    × (l.to ≡ l.from + length (row_runs (part_runs l.table l.s l.e l.is_record l.initial.words l.starts l.i) l.k))
