-- `nyrkovash::nyr_unpack` meets its contract.
-- Assumes nothing.
use Rattle.nyrkovash.proofs.Giving.{given-number, given-words}
use Rattle.nyrkovash.proofs.payloads.nyr_unpack.Goals as goal

pub returns-clause-value : goal.returns-clause-value
returns-clause-value c =
    search given-number

pub returns-clause-walked_after : goal.returns-clause-walked_after
returns-clause-walked_after c =
    search given-words
