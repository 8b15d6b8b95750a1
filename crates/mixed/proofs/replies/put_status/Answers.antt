-- `mixed::replies::put_status` meets its contract: the header, and two fields behind it.
-- Assumes nothing.
use Rattle.mixed.proofs.LaidReplies.{status-put}
use Rattle.mixed.proofs.replies.put_status.Goals as goal

pub returns : goal.returns
returns c =
    search status-put
