-- `table::section` meets its contract: each return is a case of `section_at`, in reading order.
-- Assumes nothing.
use Rattle.table.proofs.Places.{cut-count, outside, cut-entries, found}
use Rattle.table.proofs.bounds.section.Goals as goal

pub returns-then-table-at : goal.returns-then-table-at
returns-then-table-at c =
    search cut-count

pub returns-then-count-least : goal.returns-then-count-least
returns-then-count-least c =
    search outside

pub returns-then-table-end : goal.returns-then-table-end
returns-then-table-end c =
    search cut-entries

pub returns : goal.returns
returns c =
    search found
