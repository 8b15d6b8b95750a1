-- `unpack::each::read_coded` meets its contract: so many times the leaves are read, and the walk is at this place.
-- Assumes nothing.
use Rattle.unpack.specs.Reading.{Coded}
use Rattle.unpack.proofs.each.read_coded.Given as goal

abbrev pub invariant-loop-k : goal.invariant-loop-k
invariant-loop-k l = Coded l.payload l.codes l.count l.initial.at l.initial.words l.k l.at l.words
