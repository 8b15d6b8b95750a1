-- `plan::front::lay` meets its contract: refused with 30, or what lies in the bytes.
-- Assumes nothing.
use mathlib.Core.Path.{ap}
use Rattle.refusal.specs.Refusal.{verdict_of}
use Rattle.plan.proofs.LeafLaws.{few_types}
use Rattle.plan.proofs.WholePlans.{lies_in, cut-number, cut-held}
use Rattle.plan.proofs.front.lay.Goals as goal

pub lay_within-requires : goal.lay_within-requires
lay_within-requires c =
    (search few_types, search lies_in)

pub returns-else-within-clause-value : goal.returns-else-within-clause-value
returns-else-within-clause-value c =
    ap verdict_of {x = 30} (search cut-number)

pub returns-else-within-clause-plans_after : goal.returns-else-within-clause-plans_after
returns-else-within-clause-plans_after c =
    search cut-held
