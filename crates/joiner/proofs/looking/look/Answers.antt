-- `joiner::look` meets its contract: the joiner is judged, then its record taken out.
-- Assumes nothing.
use native.Mathlib.Omega.{arith}
use Rattle.joiner.proofs.Looks.{sized, so_good, found_in, bad-records, bad-sizes}
use Rattle.joiner.proofs.looking.look.Goals as goal

pub overflow_cast-count : goal.overflow_cast-count
overflow_cast-count c =
    record { fits = omega (arith, c.type_inv.words 0) }

pub are_good-requires : goal.are_good-requires
are_good-requires c =
    search sized

pub find-requires : goal.find-requires
find-requires c =
    search sized

pub found-requires-clause-sized : goal.found-requires-clause-sized
found-requires-clause-sized c =
    search sized

pub found-requires-clause-state_value : goal.found-requires-clause-state_value
found-requires-clause-state_value c =
    search so_good

pub returns-then-are_good : goal.returns-then-are_good
returns-then-are_good c =
    search found_in

pub returns-then-has_good_sizes : goal.returns-then-has_good_sizes
returns-then-has_good_sizes c =
    search bad-records

pub returns : goal.returns
returns c =
    search bad-sizes
