-- `message::write_refusal` meets its contract: each return is the first number that applies.
-- Assumes nothing.
use Rattle.message.proofs.WriteRefusals.{write-0, write_4, write_5, write_10, write-contents}
use Rattle.message.proofs.writer.write_refusal.Goals as goal

pub returns-then-domain-ge-RESERVED_DOMAINS : goal.returns-then-domain-ge-RESERVED_DOMAINS
returns-then-domain-ge-RESERVED_DOMAINS c =
    search write_4

pub returns-then-payload-ge-SIZE_LIMIT : goal.returns-then-payload-ge-SIZE_LIMIT
returns-then-payload-ge-SIZE_LIMIT c =
    search write_5

pub returns-then-room-payload : goal.returns-then-room-payload
returns-then-room-payload c =
    search write_10

pub returns-else-room-payload : goal.returns-else-room-payload
returns-else-room-payload c =
    search write-0

pub returns-else-contents-eq0 : goal.returns-else-contents-eq0
returns-else-contents-eq0 c =
    search write-contents
