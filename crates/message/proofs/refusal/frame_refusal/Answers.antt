-- `message::refusal::frame_refusal` meets its contract: each return is the first number that applies.
-- Assumes nothing.
use Rattle.message.proofs.Refusals.{frame-0, frame-1, frame-2, frame-3, frame-4}
use Rattle.message.proofs.refusal.frame_refusal.Goals as goal

pub returns-then-message-lt-LENGTH : goal.returns-then-message-lt-LENGTH
returns-then-message-lt-LENGTH c =
    search frame-1

pub returns-then-number_at-ne-MARK : goal.returns-then-number_at-ne-MARK
returns-then-number_at-ne-MARK c =
    search frame-2

pub returns-then-number_at-ne-VERSION : goal.returns-then-number_at-ne-VERSION
returns-then-number_at-ne-VERSION c =
    search frame-3

pub returns-then-number_at-ge-RESERVED_DOMAINS : goal.returns-then-number_at-ge-RESERVED_DOMAINS
returns-then-number_at-ge-RESERVED_DOMAINS c =
    search frame-4

pub returns : goal.returns
returns c =
    search frame-0
