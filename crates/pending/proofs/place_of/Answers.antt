-- `pending::place_of` meets its contract: 0 stands nowhere.
-- Assumes nothing.
use Rattle.pending.proofs.Returns.{no_number, some_number}
use Rattle.pending.proofs.place_of.Goals as goal

pub returns-then-number-eq0 : goal.returns-then-number-eq0
returns-then-number-eq0 c =
    search no_number

pub returns-else-number-eq0 : goal.returns-else-number-eq0
returns-else-number-eq0 c =
    search some_number
