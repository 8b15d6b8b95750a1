-- `pack_leaves::runs::store_all` meets its contract: each arm stores leaves of its width.
-- Assumes nothing.
use mathlib.Core.Path.{refl}
use Rattle.table.specs.Leaf.{base, bytes_of, width}
use Rattle.pack_leaves.proofs.StoredRuns.{run_stored, no_width}
use Rattle.pack_leaves.proofs.runs.store_all.Goals as goal

pub returns-in-1 : goal.returns-in-1
unfolding width base bytes_of
returns-in-1 c =
    search (run_stored 0 6 refl)

pub returns-in-2 : goal.returns-in-2
unfolding width base bytes_of
returns-in-2 c =
    search (run_stored 1 8 refl)

pub returns-in-4 : goal.returns-in-4
unfolding width base bytes_of
returns-in-4 c =
    search (run_stored 2 9 refl)

pub returns-in-8 : goal.returns-in-8
unfolding width base bytes_of
returns-in-8 c =
    search (run_stored 3 10 refl)

pub returns-in_default : goal.returns-in_default
unfolding width base bytes_of
returns-in_default c =
    search no_width
