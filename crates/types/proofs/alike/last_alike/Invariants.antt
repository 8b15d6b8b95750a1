-- `types::alike::last_alike` meets its contract: none from the j-th on is alike.
-- Assumes nothing.
use Rattle.std.proofs.Common.{◌≡◌}
use Rattle.table.specs.Entries.{value_at}
use Rattle.types.specs.Alike.{last_equal, last_alike}
use Rattle.types.proofs.alike.last_alike.Given as goal

abbrev pub invariant-loop-j : goal.invariant-loop-j
invariant-loop-j l = last_equal (value_at l.table l.s) l.word l.j ≡ last_alike l.table l.s l.k
