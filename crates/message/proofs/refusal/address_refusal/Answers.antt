-- `message::refusal::address_refusal` meets its contract: each return is the first number that applies.
-- Assumes nothing.
use Rattle.message.proofs.Refusals.{address-0, address-5, address-6}
use Rattle.message.proofs.refusal.address_refusal.Goals as goal

pub returns-then-number_at-payload_length : goal.returns-then-number_at-payload_length
returns-then-number_at-payload_length c =
    search address-5

pub returns-then-number_at-own : goal.returns-then-number_at-own
returns-then-number_at-own c =
    search address-6

pub returns : goal.returns
returns c =
    search address-0
