-- `plan::leaves::leaves_met` meets its contract: the arms are what was met.
-- Assumes nothing.
use Rattle.plan.proofs.LeafLaws.{met-leaf, met-members, met-fixed, met-array, met-broken}
use Rattle.plan.proofs.leaves.leaves_met.Goals as goal

pub returns-in-Leaf : goal.returns-in-Leaf
returns-in-Leaf c =
    search met-leaf

pub returns-in-Members : goal.returns-in-Members
returns-in-Members c =
    search met-members

pub returns-then-e-eq-FIXED : goal.returns-then-e-eq-FIXED
returns-then-e-eq-FIXED c =
    search met-fixed

pub returns-else-e-eq-FIXED : goal.returns-else-e-eq-FIXED
returns-else-e-eq-FIXED c =
    search met-array

pub returns-in-Broken : goal.returns-in-Broken
returns-in-Broken c =
    search met-broken
