use borrow.Author.Rules.{rules}
use native.Mathlib.Omega.{arith}
use Rattle.pack.proofs.Measures.{more-judged}
use Rattle.pack.proofs.limits.judged_each.Goals as goal

pub loop-k-preserved : goal.loop-k-preserved
loop-k-preserved c =
    more-judged _ _ _ _ _ _ (search rules) (search rules) (λ i. omega (arith, c.type_inv.words i)) c.loop-k.invariant c.measure-all.ensures
