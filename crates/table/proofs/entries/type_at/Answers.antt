-- `table::entries::type_at` meets its contract: the four numbers that stand at its place, read as one.
-- Assumes nothing.
use Rattle.table.proofs.Lookups.{type_word}
use Rattle.table.proofs.entries.type_at.Goals as goal

pub returns : goal.returns
returns c =
    let known = c.type_inv.table in
    search (type_word, known)
