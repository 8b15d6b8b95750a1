-- `pack::whole::store_whole` meets its contract: behind so many runs.
-- Assumes nothing.
use mathlib.Core.Path.{◌≡◌}
use Rattle.walk.specs.declared.Place.{Place}
use Rattle.pack.specs.ByPlan.{whole_at, stored_whole}
use Rattle.pack.proofs.whole.store_whole.Given as goal

abbrev pub invariant-loop-run : goal.invariant-loop-run
invariant-loop-run l =
    (l.out ≡ stored_whole l.words l.runs l.run-index l.initial.out) × (◌≡◌ {A = Place} (record { from = l.from; to = l.to }) (whole_at l.runs l.run-index))
