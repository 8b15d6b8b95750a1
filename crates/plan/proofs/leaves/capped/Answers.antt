-- `plan::leaves::capped` meets its contract: up to the limit and over it.
-- Assumes nothing.
use Rattle.plan.proofs.LeafLaws.{few, many}
use Rattle.plan.proofs.leaves.capped.Goals as goal

pub returns-then-leaves-le-MOST : goal.returns-then-leaves-le-MOST
returns-then-leaves-le-MOST c =
    search few

pub returns-else-leaves-le-MOST : goal.returns-else-leaves-le-MOST
returns-else-leaves-le-MOST c =
    search many
