-- `table::bounds::after_types` may call on: the members lie where they must.
-- Assumes nothing.
use Rattle.std.proofs.Common.{rules}
use Rattle.table.proofs.Places.{reach}
use Rattle.table.proofs.bounds.after_types.Goals as goal

pub after_members-requires : goal.after_members-requires
after_members-requires c = search (rules, reach 2 1024 2050)
