-- `mixed::replies::put_reply` meets its contract: each reply is its message.
-- Assumes nothing.
use Rattle.mixed.proofs.LaidReplies.{is-status, is-pull, is-unknown}
use Rattle.mixed.proofs.replies.put_reply.Goals as goal

pub returns-in-StatusUp : goal.returns-in-StatusUp
returns-in-StatusUp c =
    search is-status

pub returns-in-PullAll : goal.returns-in-PullAll
returns-in-PullAll c =
    search is-pull

pub returns-in-Unknown : goal.returns-in-Unknown
returns-in-Unknown c =
    search is-unknown
