-- `pack::whole::write_whole` meets its contract: what was judged whole is stored.
-- Assumes nothing.
use Rattle.pack.proofs.WholePlan.{came-to, none-if-refused, whole_from, whole_to, none-if-not-whole, all-if-whole}
use Rattle.pack.proofs.whole.write_whole.Goals as goal

pub store_whole-requires : goal.store_whole-requires
store_whole-requires c =
    (search whole_from, search whole_to)

pub returns-in-Stopped-clause-value : goal.returns-in-Stopped-clause-value
returns-in-Stopped-clause-value c =
    search came-to

pub returns-in-Stopped-clause-out_after : goal.returns-in-Stopped-clause-out_after
returns-in-Stopped-clause-out_after c =
    search none-if-refused

pub returns-then-fits-clause-value : goal.returns-then-fits-clause-value
returns-then-fits-clause-value c =
    search came-to

pub returns-then-fits-clause-out_after : goal.returns-then-fits-clause-out_after
returns-then-fits-clause-out_after c =
    search all-if-whole

pub returns-else-fits-clause-value : goal.returns-else-fits-clause-value
returns-else-fits-clause-value c =
    search came-to

pub returns-else-fits-clause-out_after : goal.returns-else-fits-clause-out_after
returns-else-fits-clause-out_after c =
    search none-if-not-whole
