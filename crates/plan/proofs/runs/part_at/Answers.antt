-- `plan::runs::part_at` meets its contract: a member, or the element.
-- Assumes nothing.
use Rattle.plan.proofs.Rows.{part-member, part-element}
use Rattle.plan.proofs.runs.part_at.Goals as goal

pub returns-then-is_record : goal.returns-then-is_record
returns-then-is_record c =
    search part-member

pub returns-else-is_record : goal.returns-else-is_record
returns-else-is_record c =
    search part-element
