-- `unpack::by_plan::store_runs` meets its contract: behind so many runs, as far as the last word.
-- Assumes nothing.
use Prim.Native.Nat.{◌≤◌}
use mathlib.Core.Path.{◌≡◌}
use Rattle.walk.specs.declared.Place.{Place}
use Rattle.unpack.specs.RunByRun.{place_at, stored_upto}
use Rattle.unpack.proofs.by_plan.store_runs.Given as goal

abbrev pub invariant-loop-run : goal.invariant-loop-run
invariant-loop-run l =
    (l.words ≡ stored_upto l.payload l.runs (record { from = l.initial.from; to = l.initial.to }) l.upto l.run-index l.initial.words)
    × (◌≡◌ {A = Place} (record { from = l.from; to = l.to }) (place_at l.runs (record { from = l.initial.from; to = l.initial.to }) l.upto l.run-index))
    × (l.to ≤ l.upto)
