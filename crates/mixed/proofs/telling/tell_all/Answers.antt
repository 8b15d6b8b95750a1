-- `mixed::telling::tell_all` meets its contract.
-- Assumes nothing.
use Rattle.mixed.proofs.ToldLaws.{all_told}
use Rattle.mixed.proofs.telling.tell_all.Goals as goal

pub returns : goal.returns
returns c =
    search all_told
