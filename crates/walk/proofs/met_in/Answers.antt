-- `walk::met_in` meets its contract.
-- Assumes nothing.
use Rattle.walk.proofs.Trees.{met_entry, met_none}
use Rattle.walk.proofs.met_in.Goals as goal

pub returns-then-word-gt-LAST_KIND : goal.returns-then-word-gt-LAST_KIND
returns-then-word-gt-LAST_KIND c =
    search met_none

pub returns : goal.returns
returns c =
    search met_entry
