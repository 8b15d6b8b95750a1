-- `operations::lookup::said` meets its contract: what is left says what the whole index does.
-- Assumes nothing.
use Rattle.operations.proofs.Looking.{Left, Ends}
use Rattle.operations.proofs.lookup.said.Given as goal

abbrev pub invariant-loop-size : goal.invariant-loop-size
invariant-loop-size l = Left l.index l.count l.id l.base l.size × Ends l.index l.count l.base l.size l.word

abbrev pub decreases-loop-size : goal.decreases-loop-size
decreases-loop-size l = l.size
