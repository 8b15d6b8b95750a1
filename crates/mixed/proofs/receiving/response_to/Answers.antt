-- `mixed::receiving::response_to` meets its contract: its request is pending, or it is 61.
-- Assumes nothing.
use Rattle.mixed.proofs.Receipts.{is-awaited, not-awaited}
use Rattle.mixed.proofs.receiving.response_to.Goals as goal

pub returns-then-take_response-clause-answer : goal.returns-then-take_response-clause-answer
returns-then-take_response-clause-answer c =
    search is-awaited

pub returns-else-take_response-clause-answer : goal.returns-else-take_response-clause-answer
returns-else-take_response-clause-answer c =
    search not-awaited
