-- `joiner::records::found` meets its contract: the record at the place, or nobody.
-- Assumes nothing.
use Rattle.joiner.proofs.Looks.{good_one, found-one, found-no-one}
use Rattle.joiner.proofs.records.found.Goals as goal

pub record_in-channel-requires-clause-at_value : goal.record_in-channel-requires-clause-at_value
record_in-channel-requires-clause-at_value c =
    search good_one

pub returns-then-at-state : goal.returns-then-at-state
returns-then-at-state c =
    search found-one

pub returns : goal.returns
returns c =
    search found-no-one
