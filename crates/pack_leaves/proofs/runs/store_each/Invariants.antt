-- `pack_leaves::runs::store_each` meets its contract. The loop's invariant: so many leaves are stored.
-- Assumes nothing.
use mathlib.Core.Path.{◌≡◌}
use Rattle.pack_leaves.specs.StoredRuns.{stored_all}
use Rattle.pack_leaves.proofs.runs.store_each.Given as goal

abbrev pub invariant-loop-k : goal.invariant-loop-k
invariant-loop-k l = l.out ≡ stored_all l.words l.code l.p l.k l.initial.out
