-- `unpack_leaves::runs::store_fours` meets its contract: four times so many words are stored, and then the rest.
-- Assumes nothing.
use Prim.Native.Nat.{◌*◌}
use mathlib.Core.Path.{◌≡◌}
use Rattle.unpack_leaves.specs.OneCode.{filled}
use Rattle.unpack_leaves.proofs.runs.store_fours.Given as goal

abbrev pub invariant-loop-k : goal.invariant-loop-k
invariant-loop-k l = l.words ≡ filled l.payload l.code l.p (4 * l.k) l.initial.words
