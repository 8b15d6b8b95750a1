-- `joiner::in_words::words_of` meets its contract. The loop's invariant: the first i records are written behind the sizes.
-- Assumes nothing.
use Rattle.std.proofs.Common.{◌≡◌, take}
use Rattle.wire.specs.Bytes.{over}
use Rattle.joiner.specs.JoinerWords.{records_words}
use Rattle.joiner.proofs.Storing.{sized}
use Rattle.joiner.proofs.in_words.words_of.Given as goal

abbrev pub invariant-loop-i : goal.invariant-loop-i
invariant-loop-i l = l.words ≡ over (sized l.fn.joiner.count l.fn.joiner.room) 2 (records_words (take l.i l.fn.joiner.channels))
