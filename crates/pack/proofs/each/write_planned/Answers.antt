-- `pack::each::write_planned` meets its contract: by the type's plan, or not at all.
-- Assumes nothing.
use borrow.Author.Rules.{rules}
use mathlib.Core.Path.{sym, ◌∙◌}
use Rattle.walk.proofs.Turns.{going_start}
use Rattle.pack.proofs.PlanEach.{going_as}
use Rattle.pack.proofs.each.write_planned.Goals as goal

pub returns-then-is_planned : goal.returns-then-is_planned
returns-then-is_planned c tr is = going_as _ _ tr (is (sym c.is_planned.ensures ∙ c.if-is_planned.true)) c.write_each.ensures

pub returns-else-is_planned : goal.returns-else-is_planned
returns-else-is_planned c tr is = going_start (search rules) (search rules)
