-- `nyrkovash::lie_in` meets its contract: the four sections one by one.
-- Assumes nothing.
use Rattle.nyrkovash.proofs.AsTheyLie.{no-types, no-members, no-values, by-the-last}
use Rattle.nyrkovash.proofs.tables.lie_in.Goals as goal

pub returns-then-lies_in-3 : goal.returns-then-lies_in-3
returns-then-lies_in-3 c =
    search by-the-last

pub returns-else-lies_in-3 : goal.returns-else-lies_in-3
returns-else-lies_in-3 c =
    search no-values

pub returns-else-lies_in-2 : goal.returns-else-lies_in-2
returns-else-lies_in-2 c =
    search no-members

pub returns-else-lies_in : goal.returns-else-lies_in
returns-else-lies_in c =
    search no-types
