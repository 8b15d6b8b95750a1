-- `mixed::telling::tell_one` meets its contract.
-- Assumes nothing.
use Rattle.mixed.proofs.ToldLaws.{one_told}
use Rattle.mixed.proofs.telling.tell_one.Goals as goal

pub returns : goal.returns
returns c =
    search one_told
