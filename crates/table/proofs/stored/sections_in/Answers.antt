-- `table::sections_in` meets its contract.
-- Assumes nothing.
use Rattle.table.proofs.Storing.{sections-in, no-sections}
use Rattle.table.proofs.stored.sections_in.Goals as goal

pub returns-then-are_sections : goal.returns-then-are_sections
returns-then-are_sections c =
    search sections-in

pub returns-else-are_sections : goal.returns-else-are_sections
returns-else-are_sections c =
    search no-sections
