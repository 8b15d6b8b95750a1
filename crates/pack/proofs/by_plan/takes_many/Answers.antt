-- `pack::by_plan::takes_many` meets its contract.
-- Assumes nothing.
use mathlib.Core.Path.{sym}
use mathlib.Core.Bool.{true≢false}
use borrow.Author.Rules.{rules}
use Rattle.pack.proofs.Anew.{taken_anew}
use Rattle.pack.proofs.by_plan.takes_many.Goals as goal

pub returns-then-judged : goal.returns-then-judged
returns-then-judged c t =
    taken_anew _ _ _ _ _ _ (c.judged.ensures c.if-judged.true) (c.among_all.ensures t) (search rules) (search rules) (search rules)

pub returns-else-judged : goal.returns-else-judged
returns-else-judged c t = absurd (true≢false (sym t))
