-- `partners::before` meets its contract. The loop's invariant: those below j are counted.
-- Assumes nothing.
use Prim.Native.Nat.{◌≤◌}
use mathlib.Core.Path.{◌≡◌}
use Rattle.states.specs.States.{count_below}
use Rattle.partners.specs.Threes.{is_three}
use Rattle.partners.proofs.before.Given as goal

abbrev pub invariant-loop-j : goal.invariant-loop-j
invariant-loop-j l = (l.count ≡ count_below (is_three l.words) l.j) × (l.count ≤ l.j)
