-- `pack::judge_codes` meets its contract. The loop's invariant: so many words are taken, and they have so many bytes.
-- Assumes nothing.
use mathlib.Core.Path.{◌≡◌}
use lib.ListN.{take}
use Rattle.pack_leaves.specs.Stored.{ends}
use Rattle.pack_leaves.proofs.OneMore.{So-far}
use Rattle.pack_leaves.proofs.by_codes.judge_codes.Given as goal

abbrev pub invariant-loop-k : goal.invariant-loop-k
invariant-loop-k l = So-far l.words l.codes l.from l.k × (l.bytes ≡ ends (take l.k l.codes) 0)
