-- `platform::replies::put_reply` meets its contract: the header, and the field behind it.
-- Assumes nothing.
use Rattle.platform.proofs.ReplyBytes.{reply-put, no-reply}
use Rattle.platform.proofs.replies.put_reply.Goals as goal

pub returns-then-out-ge-REPLY_LENGTH : goal.returns-then-out-ge-REPLY_LENGTH
returns-then-out-ge-REPLY_LENGTH c =
    search reply-put

pub returns-else-out-ge-REPLY_LENGTH : goal.returns-else-out-ge-REPLY_LENGTH
returns-else-out-ge-REPLY_LENGTH c =
    search no-reply
