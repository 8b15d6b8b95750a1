-- `plan::runs::lay_type` meets its contract: a type without a plan has no runs.
-- Assumes nothing.
use Rattle.plan.proofs.MetRuns.{no-plan-end, no-plan-held}
use Rattle.plan.proofs.runs.lay_type.Goals as goal

pub returns-then-count-eq0-clause-value : goal.returns-then-count-eq0-clause-value
returns-then-count-eq0-clause-value c =
    search no-plan-end

pub returns-then-count-eq0-clause-words_after : goal.returns-then-count-eq0-clause-words_after
returns-then-count-eq0-clause-words_after c =
    search no-plan-held
