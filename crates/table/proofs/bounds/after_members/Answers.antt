-- `table::bounds::after_members` may call on: the values lie where they must.
-- Assumes nothing.
use Rattle.std.proofs.Common.{rules}
use Rattle.table.proofs.Places.{reach}
use Rattle.table.proofs.bounds.after_members.Goals as goal

pub after_values-requires : goal.after_values-requires
after_values-requires c = search (rules, reach 8 1024 4100)
