-- `unpack::each::store_within` meets its contract: what is left to store leads to the whole.
-- Assumes nothing.
use Prim.Native.Nat.{◌+◌, ◌≤◌}
use mathlib.Core.Path.{◌≡◌}
use lib.ListN.{length, take}
use Rattle.unpack_leaves.specs.Leaves.{laid, whole_count}
use Rattle.unpack_leaves.proofs.Loops.{rest}
use Rattle.unpack.proofs.each.store_within.Given as goal

abbrev pub invariant-loop-k : goal.invariant-loop-k
invariant-loop-k l =
    (rest l.payload l.codes l.k (record { from = l.from; to = l.p.to + l.k }) l.words
    ≡ laid l.payload (take (whole_count l.payload l.codes l.p.from) l.codes) l.p l.initial.words)
    × (l.from ≤ length l.payload)
