-- `unpack_leaves::bases::is_allowed` meets its contract: char8, a code of which every word is allowed, and one that is tested.
-- Assumes nothing.
use mathlib.Core.Path.{refl}
use native.Mathlib.Omega.{arith}
use Rattle.table.specs.Leaf.{width, base, bytes_of}
use Rattle.unpack_leaves.proofs.OneLeaf.{room_of, is-char8, surely}
use Rattle.unpack_leaves.proofs.bases.is_allowed.Goals as goal

pub u8_in-requires : goal.u8_in-requires
unfolding width base bytes_of
u8_in-requires c =
    search (room_of 2 1 refl)

pub returns-then-code-eq-CHAR8 : goal.returns-then-code-eq-CHAR8
unfolding width base bytes_of
returns-then-code-eq-CHAR8 c =
    search is-char8

pub returns-then-range_of : goal.returns-then-range_of
unfolding width base bytes_of
returns-then-range_of c =
    surely _ _ _ (λ k. omega (arith, c.type_inv.payload k)) _ c.range_of.ensures c.if-range_of.true
