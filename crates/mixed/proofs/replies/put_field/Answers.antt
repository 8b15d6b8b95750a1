-- `mixed::replies::put_field` meets its contract: the header, and the field behind it.
-- Assumes nothing.
use Rattle.mixed.proofs.LaidReplies.{field_put}
use Rattle.mixed.proofs.replies.put_field.Goals as goal

pub returns : goal.returns
returns c =
    search field_put
