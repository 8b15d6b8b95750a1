-- `services::mark` meets its contract. The loop's invariant: the words before this one are marked.
-- Assumes nothing.
use mathlib.Core.Path.{◌≡◌}
use mathlib.Core.List.{◌++◌}
use lib.ListN.{take, drop}
use Rattle.services.specs.Block.{marked}
use Rattle.services.proofs.mark.Given as goal

abbrev pub invariant-loop-word : goal.invariant-loop-word
invariant-loop-word l = marked l.initial.block ≡ take l.word-index l.block ++ marked (drop l.word-index l.block)
