-- `plan::leaves::length_in` meets its contract: 30, or what is counted.
-- Assumes nothing.
use Rattle.plan.proofs.LeafLaws.{few_types, length_is, no_length}
use Rattle.plan.proofs.leaves.length_in.Goals as goal

pub plans_length-requires : goal.plans_length-requires
plans_length-requires c =
    search few_types

pub returns-then-within : goal.returns-then-within
returns-then-within c =
    search length_is

pub returns-else-within : goal.returns-else-within
returns-else-within c =
    search no_length
