-- `leaf::allowed` meets its contract: an integer by its range, a float by the arm of its code.
-- Assumes nothing.
use Rattle.table.specs.Leaf.{allowed, base, is_value, finite}
use Rattle.leaf.proofs.Limits.{in_range, at_code, at_double, no_code}
use Rattle.leaf.proofs.codes.allowed.Goals as goal

pub returns-then-code-lt-FLOAT32 : goal.returns-then-code-lt-FLOAT32
unfolding allowed base is_value finite
returns-then-code-lt-FLOAT32 c =
    search in_range

pub returns-in-11 : goal.returns-in-11
unfolding allowed base is_value finite
returns-in-11 c =
    search (at_code 11)

pub returns-in-12 : goal.returns-in-12
unfolding allowed base is_value finite
returns-in-12 c =
    search at_double

pub returns-in_default : goal.returns-in_default
unfolding allowed base is_value finite
returns-in_default c =
    search no_code
