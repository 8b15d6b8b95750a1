-- `pack::walking::store_bases` meets its contract. The loop's invariant: so many leaves are stored, and they end here.
-- Assumes nothing.
use mathlib.Core.Path.{◌≡◌}
use lib.ListN.{take}
use Rattle.pack_leaves.specs.Stored.{ends, laid}
use Rattle.pack.proofs.walking.store_bases.Given as goal

abbrev pub invariant-loop-k : goal.invariant-loop-k
invariant-loop-k l = (l.to ≡ ends (take l.k l.codes) l.p.to) × (l.out ≡ laid l.words (take l.k l.codes) l.p l.initial.out)
