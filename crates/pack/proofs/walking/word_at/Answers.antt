-- `pack::word_at` meets its contract.
-- Assumes nothing.
use Rattle.pack.proofs.WriteReturns.{no_word}
use Rattle.pack.proofs.walking.word_at.Goals as goal

pub returns-else-at-words : goal.returns-else-at-words
returns-else-at-words c =
    search no_word
