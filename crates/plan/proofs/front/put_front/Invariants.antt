-- `plan::front::put_front` meets its contract: the words of the first k types are written, and then the count.
-- Assumes nothing.
use Prim.Native.Nat.{◌+◌}
use mathlib.Core.Path.{◌≡◌}
use Rattle.wire.specs.Bytes.{over}
use Rattle.plan.specs.Laying.{index_of}
use Rattle.plan.proofs.front.put_front.Given as goal

abbrev pub invariant-loop-k : goal.invariant-loop-k
invariant-loop-k l =
    l.words ≡ over l.initial.words 1 (index_of l.counts l.starts (1 + l.n) l.k)
