use borrow.Author.Rules.{rules}
use native.Mathlib.Omega.{arith}
use Rattle.leaf.proofs.Counted.{counted_none}
use Rattle.unpack_leaves.proofs.Ascii.{chars-in}
use Rattle.unpack_leaves.proofs.OneCode.{all_good, judged-more}
use Rattle.unpack_leaves.proofs.runs.judged.Goals as goal

pub returns-then-range_of : goal.returns-then-range_of
returns-then-range_of c =
    all_good _ _ _ _ (λ k. omega (arith, c.type_inv.payload k)) _ c.range_of.ensures c.if-range_of.true

pub are_ascii-requires : goal.are_ascii-requires
are_ascii-requires c =
    search chars-in

pub loop-seen-init : goal.loop-seen-init
loop-seen-init c =
    (search counted_none, search rules)

pub loop-seen-preserved : goal.loop-seen-preserved
loop-seen-preserved c =
    (search judged-more, search rules)
