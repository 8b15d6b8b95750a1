-- `walk::runs::codes_at` meets its contract: what is read from the parts stands in the table, and there are no codes where one
-- of them does not lie within it.
-- Assumes nothing.
use Rattle.walk.proofs.Parts.{types-end, members-end, counted_in, stored-in, not_there, none-placed}
use Rattle.walk.proofs.runs.codes_at.Goals as goal

pub slice_bounds-codes_in-end : goal.slice_bounds-codes_in-end
slice_bounds-codes_in-end c =
    search types-end

pub slice_bounds-codes_in-end-then-are_there : goal.slice_bounds-codes_in-end-then-are_there
slice_bounds-codes_in-end-then-are_there c =
    search members-end

pub returns-then-are_there-clause-value : goal.returns-then-are_there-clause-value
returns-then-are_there-clause-value c =
    search counted_in

pub returns-then-are_there-clause-codes_after : goal.returns-then-are_there-clause-codes_after
returns-then-are_there-clause-codes_after c =
    search stored-in

pub returns-else-are_there-clause-value : goal.returns-else-are_there-clause-value
returns-else-are_there-clause-value c =
    search not_there

pub returns-else-are_there-clause-codes_after : goal.returns-else-are_there-clause-codes_after
returns-else-are_there-clause-codes_after c =
    search (none-placed, not_there)
