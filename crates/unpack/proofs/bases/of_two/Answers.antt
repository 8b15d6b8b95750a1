-- `unpack::bases::of_two` meets its contract: int16, and the codes whose word is the number.
-- Assumes nothing.
use mathlib.Core.Path.{refl}
use Rattle.table.specs.Leaf.{base}
use Rattle.leaf.specs.Forms.{word_at, word_of}
use Rattle.unpack_leaves.proofs.OneLeaf.{at-extended}
use Rattle.unpack.proofs.ByWidth.{of_two}
use Rattle.unpack.proofs.bases.of_two.Goals as goal

pub returns-then-code-eq-INT16 : goal.returns-then-code-eq-INT16
unfolding base word_at word_of
returns-then-code-eq-INT16 c =
    search (at-extended 3 1 32768 (λ s p. refl))

pub returns : goal.returns
unfolding base word_at word_of
returns c =
    search of_two
