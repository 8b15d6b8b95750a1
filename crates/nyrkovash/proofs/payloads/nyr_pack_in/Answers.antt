-- `nyrkovash::nyr_pack_in` meets its contract.
-- Assumes nothing.
use Rattle.nyrkovash.proofs.Giving.{number_in, left_in, words-in}
use Rattle.nyrkovash.proofs.payloads.nyr_pack_in.Goals as goal

pub returns-clause-value : goal.returns-clause-value
returns-clause-value c =
    search number_in

pub returns-clause-out_after : goal.returns-clause-out_after
returns-clause-out_after c =
    search left_in

pub returns-clause-walked_after : goal.returns-clause-walked_after
returns-clause-walked_after c =
    search words-in
