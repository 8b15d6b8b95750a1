-- `services::note` meets its contract.
-- Assumes nothing.
use Rattle.services.proofs.Noting.{other-refused, other-kept, is-refused, not-fitting, kept, no-refusal, is-noted}
use Rattle.services.proofs.note.Goals as goal

pub returns-then-block-ne-SERVICES-clause-answer : goal.returns-then-block-ne-SERVICES-clause-answer
returns-then-block-ne-SERVICES-clause-answer c =
    search other-refused

pub returns-then-block-ne-SERVICES-clause-block : goal.returns-then-block-ne-SERVICES-clause-block
returns-then-block-ne-SERVICES-clause-block c =
    search other-kept

pub returns-then-tell_all-clause-answer : goal.returns-then-tell_all-clause-answer
returns-then-tell_all-clause-answer c =
    search no-refusal

pub returns-then-tell_all-clause-block : goal.returns-then-tell_all-clause-block
returns-then-tell_all-clause-block c =
    search is-noted

pub returns-else-tell_all-clause-answer : goal.returns-else-tell_all-clause-answer
returns-else-tell_all-clause-answer c =
    search is-refused

pub returns-else-tell_all-clause-block : goal.returns-else-tell_all-clause-block
returns-else-tell_all-clause-block c =
    kept c.args.block.now c.args.payload.now (search not-fitting)
