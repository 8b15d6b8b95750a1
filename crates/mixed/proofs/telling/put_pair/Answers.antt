-- `mixed::telling::put_pair` meets its contract.
-- Assumes nothing.
use Rattle.mixed.proofs.ToldLaws.{pair_put}
use Rattle.mixed.proofs.telling.put_pair.Goals as goal

pub returns : goal.returns
returns c =
    search pair_put
