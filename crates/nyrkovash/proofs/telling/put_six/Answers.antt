-- `nyrkovash::telling::put_six` meets its contract: the words by the bytes.
-- Assumes nothing.
use Rattle.nyrkovash.proofs.IssueWords.{six_told}
use Rattle.nyrkovash.proofs.telling.put_six.Goals as goal

pub returns : goal.returns
returns c =
    search six_told
