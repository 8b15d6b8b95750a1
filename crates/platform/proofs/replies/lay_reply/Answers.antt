-- `platform::replies::lay_reply` meets its contract: the reply is written into the part of the output that starts at its place.
-- Assumes nothing.
use Rattle.platform.proofs.ReplyBytes.{reply_laid}
use Rattle.platform.proofs.replies.lay_reply.Goals as goal

pub returns : goal.returns
returns c =
    search reply_laid
