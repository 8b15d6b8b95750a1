-- `joiner::write_piece` meets its contract: nothing, or the bytes behind the header.
-- Assumes nothing.
use Rattle.joiner.proofs.Taking.{put_nowhere, put_at, put_none}
use Rattle.joiner.proofs.write_piece.Goals as goal

pub returns-in_default : goal.returns-in_default
returns-in_default c =
    search put_nowhere

pub returns-then-datagram-ge-LENGTH : goal.returns-then-datagram-ge-LENGTH
returns-then-datagram-ge-LENGTH c =
    search put_at

pub returns-else-datagram-ge-LENGTH : goal.returns-else-datagram-ge-LENGTH
returns-else-datagram-ge-LENGTH c =
    search put_none
