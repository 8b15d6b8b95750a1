-- `pack_leaves::runs::store` meets its contract: as many leaves as there is room for, and those behind change nothing.
-- Assumes nothing.
use borrow.Author.Rules.{rules}
use mathlib.Core.Path.{refl}
use native.Mathlib.Omega.{arith}
use Rattle.pack_leaves.proofs.StoredRuns.{has_width, fit-in, all-that-fit, none-fits}
use Rattle.pack_leaves.proofs.runs.store.Goals as goal

pub nonzero_div-room : goal.nonzero_div-room
nonzero_div-room c =
    omega (arith, has_width _ c.requires.0)

pub store_fours-requires : goal.store_fours-requires
store_fours-requires c =
    (search rules, search fit-in)

pub returns-then-p-out : goal.returns-then-p-out
returns-then-p-out c =
    all-that-fit _ _ _ _ c.requires.0 _ _ _ _ c.width.ensures c.if-p-out.true refl c.least.ensures
    c.store_fours.ensures

pub returns-else-p-out : goal.returns-else-p-out
returns-else-p-out c =
    search none-fits
