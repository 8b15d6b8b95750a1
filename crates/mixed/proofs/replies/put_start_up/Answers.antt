-- `mixed::replies::put_start_up` meets its contract: three messages, one behind another.
-- Assumes nothing.
use Rattle.mixed.proofs.LaidReplies.{start_up_put}
use Rattle.mixed.proofs.replies.put_start_up.Goals as goal

pub returns : goal.returns
returns c =
    search start_up_put
