-- `services::tell` meets its contract.
-- Assumes nothing.
use Rattle.services.proofs.Telling.{has-place, no_place, is_told, not-told}
use Rattle.services.proofs.tell.Goals as goal

pub returns-then-at-block-clause-answer : goal.returns-then-at-block-clause-answer
returns-then-at-block-clause-answer c =
    search has-place

pub returns-then-at-block-clause-block : goal.returns-then-at-block-clause-block
returns-then-at-block-clause-block c =
    search is_told

pub returns-else-at-block-clause-answer : goal.returns-else-at-block-clause-answer
returns-else-at-block-clause-answer c =
    search no_place

pub returns-else-at-block-clause-block : goal.returns-else-at-block-clause-block
returns-else-at-block-clause-block c =
    search not-told
