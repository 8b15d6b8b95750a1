-- `leaf::width` meets its contract: each arm is the width of its code.
-- Assumes nothing.
use Rattle.table.specs.Leaf.{width, base, bytes_of}
use Rattle.table.proofs.Leaves.{arm, no_arm}
use Rattle.leaf.proofs.codes.width.Goals as goal

pub returns-in-0 : goal.returns-in-0
unfolding width base bytes_of
returns-in-0 c =
    search (arm bytes_of 0)

pub returns-in-1 : goal.returns-in-1
unfolding width base bytes_of
returns-in-1 c =
    search (arm bytes_of 1)

pub returns-in-2 : goal.returns-in-2
unfolding width base bytes_of
returns-in-2 c =
    search (arm bytes_of 2)

pub returns-in-3 : goal.returns-in-3
unfolding width base bytes_of
returns-in-3 c =
    search (arm bytes_of 3)

pub returns-in-4 : goal.returns-in-4
unfolding width base bytes_of
returns-in-4 c =
    search (arm bytes_of 4)

pub returns-in-5 : goal.returns-in-5
unfolding width base bytes_of
returns-in-5 c =
    search (arm bytes_of 5)

pub returns-in-6 : goal.returns-in-6
unfolding width base bytes_of
returns-in-6 c =
    search (arm bytes_of 6)

pub returns-in-7 : goal.returns-in-7
unfolding width base bytes_of
returns-in-7 c =
    search (arm bytes_of 7)

pub returns-in-8 : goal.returns-in-8
unfolding width base bytes_of
returns-in-8 c =
    search (arm bytes_of 8)

pub returns-in-9 : goal.returns-in-9
unfolding width base bytes_of
returns-in-9 c =
    search (arm bytes_of 9)

pub returns-in-10 : goal.returns-in-10
unfolding width base bytes_of
returns-in-10 c =
    search (arm bytes_of 10)

pub returns-in-11 : goal.returns-in-11
unfolding width base bytes_of
returns-in-11 c =
    search (arm bytes_of 11)

pub returns-in-12 : goal.returns-in-12
unfolding width base bytes_of
returns-in-12 c =
    search (arm bytes_of 12)

pub returns-in_default : goal.returns-in_default
unfolding width base bytes_of
returns-in_default c =
    search (no_arm bytes_of)
