-- `pack::whole::set` meets its contract: each arm writes the bytes of its width.
-- Assumes nothing.
use Rattle.pack_leaves.proofs.Laid.{set_form, set_whole}
use Rattle.pack.proofs.WholeStores.{not_wide}
use Rattle.pack.proofs.whole.set.Goals as goal

pub set_byte-requires-clause-fact : goal.set_byte-requires-clause-fact
set_byte-requires-clause-fact c =
    (search (not_wide 2), search (not_wide 4), search (not_wide 8))

pub returns-in-4 : goal.returns-in-4
returns-in-4 c =
    search (set_form 2)

pub returns-in-8 : goal.returns-in-8
returns-in-8 c =
    search set_whole

pub returns-in-2 : goal.returns-in-2
returns-in-2 c =
    search (set_form 1)
