-- `leaf::measure` meets its contract: the floats by the arms of their codes, all others by what is below 0.
-- Assumes nothing.
use Rattle.table.specs.Leaf.{base}
use Rattle.leaf.specs.Limits.{measure}
use Rattle.leaf.proofs.Limits.{measured, moved_up}
use Rattle.leaf.proofs.codes.measure.Goals as goal

pub returns-in-11 : goal.returns-in-11
unfolding base measure
returns-in-11 c =
    search (measured 11)

pub returns-in-12 : goal.returns-in-12
unfolding base measure
returns-in-12 c =
    search (measured 12)

pub returns-in_default : goal.returns-in_default
unfolding base measure
returns-in_default c =
    search moved_up
