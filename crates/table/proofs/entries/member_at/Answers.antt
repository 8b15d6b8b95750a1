-- `table::entries::member_at` meets its contract: the number at its place.
-- Assumes nothing.
use Rattle.table.proofs.Lookups.{member-read}
use Rattle.table.proofs.entries.member_at.Goals as goal

pub returns : goal.returns
returns c =
    search member-read
