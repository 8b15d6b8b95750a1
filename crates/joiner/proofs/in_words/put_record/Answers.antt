-- `joiner::in_words::put_record` meets its contract: the four words behind one another, or none.
-- Assumes nothing.
use Rattle.joiner.proofs.Storing.{put_record, no_record}
use Rattle.joiner.proofs.in_words.put_record.Goals as goal

pub returns-then-at-lt-CHANNELS : goal.returns-then-at-lt-CHANNELS
returns-then-at-lt-CHANNELS c =
    search put_record

pub returns-else-at-lt-CHANNELS : goal.returns-else-at-lt-CHANNELS
returns-else-at-lt-CHANNELS c =
    search no_record
