-- `unpack_leaves::by_codes::judge_within` meets its contract: the leaves passed and those left to judge are all that are there.
-- Assumes nothing.
use Prim.Native.Nat.{◌+◌, ◌≤◌}
use mathlib.Core.Path.{◌≡◌}
use lib.ListN.{length, take, drop}
use Rattle.unpack_leaves.specs.Leaves.{ends, there_count}
use Rattle.unpack_leaves.proofs.by_codes.judge_within.Given as goal

abbrev pub invariant-loop-k : goal.invariant-loop-k
invariant-loop-k l = (l.k + there_count l.payload (drop l.k l.codes) l.from ≡ there_count l.payload l.codes l.first)
    × (l.from ≡ ends (take l.k l.codes) l.first) × (l.from ≤ length l.payload)
