-- `message::refusal::behind_header` meets its contract: what is left behind 20 bytes, or nothing.
-- Assumes nothing.
use Rattle.message.proofs.Refusals.{behind, nothing_behind}
use Rattle.message.proofs.refusal.behind_header.Goals as goal

pub returns-then-message-ge-LENGTH : goal.returns-then-message-ge-LENGTH
returns-then-message-ge-LENGTH c =
    search behind

pub returns-else-message-ge-LENGTH : goal.returns-else-message-ge-LENGTH
returns-else-message-ge-LENGTH c =
    search nothing_behind
