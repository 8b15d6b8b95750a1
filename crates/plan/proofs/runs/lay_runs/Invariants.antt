-- `plan::runs::lay_runs` meets its contract: the runs of the first i types are laid out.
-- Assumes nothing.
use mathlib.Core.Path.{◌≡◌}
use lib.ListN.{length, take}
use Rattle.wire.specs.Bytes.{over}
use Rattle.plan.specs.Layout.{all_runs}
use Rattle.plan.specs.Laying.{starts_of}
use Rattle.plan.proofs.runs.lay_runs.Given as goal

abbrev pub invariant-loop-i : goal.invariant-loop-i
invariant-loop-i l =
    (l.words ≡ over l.initial.words 0 (all_runs l.table l.s l.i))
    × (l.end ≡ length (all_runs l.table l.s l.i)) × (take l.i l.starts ≡ starts_of l.table l.s l.i)
