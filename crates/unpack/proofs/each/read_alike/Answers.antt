-- `unpack::each::read_alike` meets its contract: by the type's plan, by the members' codes, or not at all.
-- Assumes nothing.
use mathlib.Core.Path.{sym, ◌∙◌}
use Rattle.unpack.proofs.EachByPlan.{going_as}
use Rattle.unpack.proofs.each.read_alike.Goals as goal

pub returns-then-e-eq-RECORD : goal.returns-then-e-eq-RECORD
returns-then-e-eq-RECORD c = λ tr is.
    going_as _ _ tr (is.members (sym c.is_planned.ensures ∙ c.if-is_planned.false) c.if-e-eq-RECORD.true) (c.read_records.ensures _)
