-- `table::bounds::read` may call on: the types lie where they must.
-- Assumes nothing.
use Rattle.std.proofs.Common.{rules}
use Rattle.table.proofs.Places.{reach_first}
use Rattle.table.proofs.bounds.read.Goals as goal

pub after_types-requires : goal.after_types-requires
after_types-requires c = search (rules, reach_first 8 256)
