-- `unpack::bases::of_four` meets its contract: int32, and the codes whose word is the number.
-- Assumes nothing.
use mathlib.Core.Path.{refl}
use Rattle.table.specs.Leaf.{base}
use Rattle.leaf.specs.Forms.{word_at, word_of}
use Rattle.unpack_leaves.proofs.OneLeaf.{at-extended}
use Rattle.unpack.proofs.ByWidth.{of_four}
use Rattle.unpack.proofs.bases.of_four.Goals as goal

pub returns-then-code-eq-INT32 : goal.returns-then-code-eq-INT32
unfolding base word_at word_of
returns-then-code-eq-INT32 c =
    search (at-extended 4 2 2147483648 (λ s p. refl))

pub returns : goal.returns
unfolding base word_at word_of
returns c =
    search of_four
