-- `unpack::whole::store_whole` meets its contract: behind so many runs.
-- Assumes nothing.
use mathlib.Core.Path.{◌≡◌}
use Rattle.walk.specs.declared.Place.{Place}
use Rattle.unpack.specs.RunByRun.{whole_at, stored_whole}
use Rattle.unpack.proofs.whole.store_whole.Given as goal

abbrev pub invariant-loop-run : goal.invariant-loop-run
invariant-loop-run l =
    (l.words ≡ stored_whole l.payload l.runs l.run-index l.initial.words)
    × (◌≡◌ {A = Place} (record { from = l.from; to = l.to }) (whole_at l.runs l.run-index))
