-- `nyrkovash::reading::put_reading` meets its contract: the words by the bytes.
-- Assumes nothing.
use Rattle.nyrkovash.proofs.Words.{words_read}
use Rattle.nyrkovash.proofs.reading.put_reading.Goals as goal

pub returns : goal.returns
returns c =
    search words_read
