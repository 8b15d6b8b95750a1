-- `types::check` may judge what is in the sections: they lie in the table.
-- Assumes nothing.
use Rattle.std.proofs.Common.{rules}
use Rattle.types.proofs.Insides.{found_lie}
use Rattle.types.proofs.check.Goals as goal

pub judged-requires : goal.judged-requires
judged-requires c =
    search (rules, found_lie)
