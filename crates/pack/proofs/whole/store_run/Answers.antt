-- `pack::whole::store_run` meets its contract: one leaf, or several.
-- Assumes nothing.
use mathlib.Core.Path.{sym}
use borrow.Author.Rules.{rules}
use lib.Seq.{length-take-le}
use Rattle.pack.proofs.Anew.{stored_anew}
use Rattle.pack.proofs.WholeStores.{one_wide, one_room, leaf_written}
use Rattle.pack.proofs.whole.store_run.Goals as goal

pub set-requires : goal.set-requires
set-requires c =
    (search one_room, search one_wide)

pub slice_bounds-store_run-end : goal.slice_bounds-store_run-end
slice_bounds-store_run-end c =
    sym (length-take-le _ _ (search rules))

pub returns-then-count-eq1 : goal.returns-then-count-eq1
returns-then-count-eq1 c =
    search leaf_written

pub returns-else-count-eq1 : goal.returns-else-count-eq1
returns-else-count-eq1 c =
    search stored_anew
