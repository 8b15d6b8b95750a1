-- `pack_leaves::runs::store_fours` meets its contract: four times so many leaves are stored, and then the rest.
-- Assumes nothing.
use Prim.Native.Nat.{◌*◌}
use mathlib.Core.Path.{◌≡◌}
use Rattle.pack_leaves.specs.StoredRuns.{stored_all}
use Rattle.pack_leaves.proofs.runs.store_fours.Given as goal

abbrev pub invariant-loop-k : goal.invariant-loop-k
invariant-loop-k l = l.out ≡ stored_all l.words l.code l.p (4 * l.k) l.initial.out
