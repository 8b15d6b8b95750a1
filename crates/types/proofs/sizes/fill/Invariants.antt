-- `types::sizes::fill` meets its contract: the room holds the sizes of the first i types, and none is too large.
-- Assumes nothing.
use Rattle.std.proofs.Common.{◌≡◌, true, take}
use Rattle.wire.specs.All.{all_below}
use Rattle.types.specs.Sizes.{sizes, fits_in_size}
use Rattle.types.proofs.sizes.fill.Given as goal

abbrev pub invariant-loop-i : goal.invariant-loop-i
invariant-loop-i g l =
    (all_below (fits_in_size l.table l.s) l.i ≡ true)
    × (take l.i l.room ≡ sizes l.table l.s l.i)
