-- `mixed::telling::put_head` meets its contract: the header, and how many behind it.
-- Assumes nothing.
use Rattle.mixed.proofs.ToldLaws.{head_put}
use Rattle.mixed.proofs.telling.put_head.Goals as goal

pub returns : goal.returns
returns c =
    search head_put
