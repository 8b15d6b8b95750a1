-- `walk::runs::codes_in` meets its contract. The loop's invariant: the first k members are bases, and their codes are stored.
-- Assumes nothing.
use mathlib.Core.Path.{◌≡◌}
use mathlib.Core.Bool.{true}
use Rattle.wire.specs.Bytes.{over}
use Rattle.walk.specs.Codes.{all_bases, firsts, part_code}
use Rattle.walk.proofs.runs.codes_in.Given as goal

abbrev pub invariant-loop-k : goal.invariant-loop-k
invariant-loop-k l =
    (all_bases (part_code l.types l.members l.i) l.k ≡ true)
    × (l.codes ≡ over l.initial.codes 0 (firsts (part_code l.types l.members l.i) l.k))
