-- `plan::runs::add` meets its contract: none is there, or the last is like the run or unlike.
-- Assumes nothing.
use Rattle.plan.proofs.Adding.{first-end, first-held, few-more, more-end, more-held, next-end, next-held}
use Rattle.plan.proofs.runs.add.Goals as goal

pub returns-then-from-end-clause-value : goal.returns-then-from-end-clause-value
returns-then-from-end-clause-value c =
    search first-end

pub returns-then-from-end-clause-words_after : goal.returns-then-from-end-clause-words_after
returns-then-from-end-clause-words_after c =
    search first-held

pub merged-requires : goal.merged-requires
merged-requires c =
    search few-more

pub returns-then-alike-clause-value : goal.returns-then-alike-clause-value
returns-then-alike-clause-value c =
    search more-end

pub returns-then-alike-clause-words_after : goal.returns-then-alike-clause-words_after
returns-then-alike-clause-words_after c =
    search more-held

pub returns-clause-value : goal.returns-clause-value
returns-clause-value c =
    search next-end

pub returns-clause-words_after : goal.returns-clause-words_after
returns-clause-words_after c =
    search next-held
