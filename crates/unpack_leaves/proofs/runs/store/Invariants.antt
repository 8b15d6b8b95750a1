-- `unpack_leaves::runs::store` meets its contract: so many words are stored.
-- Assumes nothing.
use mathlib.Core.Path.{◌≡◌}
use Rattle.unpack_leaves.specs.OneCode.{filled}
use Rattle.unpack_leaves.proofs.runs.store.Given as goal

abbrev pub invariant-loop-done : goal.invariant-loop-done
invariant-loop-done l = l.words ≡ filled l.payload l.code l.p l.done l.initial.words
