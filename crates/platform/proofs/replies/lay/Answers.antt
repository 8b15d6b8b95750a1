-- `platform::replies::lay` meets its contract: the replies stand one behind another, or nothing changes.
-- Assumes nothing.
use Rattle.platform.proofs.ReplyBytes.{lay-not, lay-none, lay-one, lay-two}
use Rattle.platform.proofs.replies.lay.Goals as goal

pub returns-in-Nothing : goal.returns-in-Nothing
returns-in-Nothing c =
    search lay-none

pub returns-in-One : goal.returns-in-One
returns-in-One c =
    search lay-one

pub returns-in-Two : goal.returns-in-Two
returns-in-Two c =
    search lay-two

pub returns-else-length_of-out : goal.returns-else-length_of-out
returns-else-length_of-out c =
    search lay-not
