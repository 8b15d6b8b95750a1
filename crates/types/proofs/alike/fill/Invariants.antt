-- `types::alike::fill` meets its contract: the room holds the last ones alike of the first k values.
-- Assumes nothing.
use Rattle.types.specs.Alike.{Alikes}
use Rattle.types.proofs.alike.fill.Given as goal

abbrev pub invariant-loop-k : goal.invariant-loop-k
invariant-loop-k l = Alikes l.table l.s l.k l.room
