use borrow.Author.Rules.{rules}
use native.Mathlib.Omega.{arith}
use Rattle.plan.proofs.LeafLaws.{sum-none, sum_more}
use Rattle.plan.proofs.leaves.sum.Goals as goal

pub loop-count-init : goal.loop-count-init
loop-count-init c =
    (search sum-none, search rules)

pub loop-count-preserved : goal.loop-count-preserved
loop-count-preserved c =
    (search sum_more, omega (arith, c.type_inv.counts c.loop-count.count-index))
