-- `joiner::records::are_each_good` meets its contract: the records, then their IDs.
-- Assumes nothing.
use Rattle.joiner.proofs.Looks.{good-apart, not_good}
use Rattle.joiner.proofs.records.are_each_good.Goals as goal

pub returns-then-each_is_good : goal.returns-then-each_is_good
returns-then-each_is_good c =
    search good-apart

pub returns : goal.returns
returns c =
    search not_good
