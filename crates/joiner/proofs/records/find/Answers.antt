use Rattle.joiner.proofs.Looks.{found_first, found_none}
use Rattle.joiner.proofs.records.find.Goals as goal

pub returns-then-state-i : goal.returns-then-state-i
returns-then-state-i c =
    search found_first

pub returns : goal.returns
returns c =
    search found_none
