-- `leaf::last` meets its contract: each arm is the last of its code.
-- Assumes nothing.
use Rattle.table.specs.Leaf.{base}
use Rattle.table.proofs.Leaves.{arm, no_arm}
use Rattle.leaf.specs.Limits.{range_of}
use Rattle.leaf.proofs.codes.last.Goals as goal

pub returns-in-0 : goal.returns-in-0
unfolding base range_of
returns-in-0 c =
    search (arm (λ l. (range_of l).last) 0)

pub returns-in-1 : goal.returns-in-1
unfolding base range_of
returns-in-1 c =
    search (arm (λ l. (range_of l).last) 1)

pub returns-in-2 : goal.returns-in-2
unfolding base range_of
returns-in-2 c =
    search (arm (λ l. (range_of l).last) 2)

pub returns-in-3 : goal.returns-in-3
unfolding base range_of
returns-in-3 c =
    search (arm (λ l. (range_of l).last) 3)

pub returns-in-4 : goal.returns-in-4
unfolding base range_of
returns-in-4 c =
    search (arm (λ l. (range_of l).last) 4)

pub returns-in-5 : goal.returns-in-5
unfolding base range_of
returns-in-5 c =
    search (arm (λ l. (range_of l).last) 5)

pub returns-in-6 : goal.returns-in-6
unfolding base range_of
returns-in-6 c =
    search (arm (λ l. (range_of l).last) 6)

pub returns-in-7 : goal.returns-in-7
unfolding base range_of
returns-in-7 c =
    search (arm (λ l. (range_of l).last) 7)

pub returns-in-8 : goal.returns-in-8
unfolding base range_of
returns-in-8 c =
    search (arm (λ l. (range_of l).last) 8)

pub returns-in-9 : goal.returns-in-9
unfolding base range_of
returns-in-9 c =
    search (arm (λ l. (range_of l).last) 9)

pub returns-in-10 : goal.returns-in-10
unfolding base range_of
returns-in-10 c =
    search (arm (λ l. (range_of l).last) 10)

pub returns-in-11 : goal.returns-in-11
unfolding base range_of
returns-in-11 c =
    search (arm (λ l. (range_of l).last) 11)

pub returns-in-12 : goal.returns-in-12
unfolding base range_of
returns-in-12 c =
    search (arm (λ l. (range_of l).last) 12)

pub returns-in_default : goal.returns-in_default
unfolding base range_of
returns-in_default c =
    search (no_arm (λ l. (range_of l).last))
