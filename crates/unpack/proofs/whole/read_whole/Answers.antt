-- `unpack::whole::read_whole` meets its contract: what was judged whole is stored.
-- Assumes nothing.
use Rattle.unpack.proofs.WholePlan.{none-if-refused, whole_from, whole_to, none-if-not-whole, all-if-whole}
use Rattle.unpack.proofs.whole.read_whole.Goals as goal

pub store_whole-requires : goal.store_whole-requires
store_whole-requires c =
    (search whole_from, search whole_to)

pub returns-in-Stopped-clause-words_after : goal.returns-in-Stopped-clause-words_after
returns-in-Stopped-clause-words_after c =
    search none-if-refused

pub returns-then-fits-clause-words_after : goal.returns-then-fits-clause-words_after
returns-then-fits-clause-words_after c =
    search all-if-whole

pub returns-else-fits-clause-words_after : goal.returns-else-fits-clause-words_after
returns-else-fits-clause-words_after c =
    search none-if-not-whole
