-- `mixed_words::asking::block_at` meets its contract: as much of it as there is.
-- Assumes nothing.
use Rattle.mixed_words.proofs.ServiceAsked.{part-of-block}
use Rattle.mixed_words.proofs.asking.block_at.Goals as goal

pub returns : goal.returns
returns c =
    search part-of-block
