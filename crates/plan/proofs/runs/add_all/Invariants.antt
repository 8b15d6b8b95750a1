-- `plan::runs::add_all` meets its contract: the runs up to the k-th have been added.
-- Assumes nothing.
use Prim.Native.Nat.{◌+◌}
use mathlib.Core.Path.{◌≡◌}
use lib.ListN.{length}
use Rattle.wire.specs.Bytes.{over}
use Rattle.plan.specs.Layout.{add_all}
use Rattle.plan.specs.Laying.{between}
use Rattle.plan.proofs.runs.add_all.Given as goal

abbrev pub invariant-loop-k : goal.invariant-loop-k
invariant-loop-k l =
    (l.words ≡ over l.initial.words l.from (add_all (between l.from l.end l.initial.words) (between l.at l.k l.initial.words)))
    × (l.to ≡ l.from + length (add_all (between l.from l.end l.initial.words) (between l.at l.k l.initial.words)))
