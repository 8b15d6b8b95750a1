-- `nyrkovash::telling::put_three` meets its contract: each word in its place.
-- Assumes nothing.
use Rattle.nyrkovash.proofs.IssueWords.{three_told}
use Rattle.nyrkovash.proofs.telling.put_three.Goals as goal

pub returns : goal.returns
returns c =
    search three_told
