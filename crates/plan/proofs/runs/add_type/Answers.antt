-- `plan::runs::add_type` meets its contract: a type before, or none.
-- Assumes nothing.
use Rattle.plan.proofs.Rows.{type-room, type-end, type-held, none_end, none-held}
use Rattle.plan.proofs.runs.add_type.Goals as goal

pub add_all-requires-clause-room : goal.add_all-requires-clause-room
add_all-requires-clause-room c =
    search type-room

pub returns-then-at-i-clause-value : goal.returns-then-at-i-clause-value
returns-then-at-i-clause-value c =
    search type-end

pub returns-then-at-i-clause-words_after : goal.returns-then-at-i-clause-words_after
returns-then-at-i-clause-words_after c =
    search type-held

pub returns-clause-value : goal.returns-clause-value
returns-clause-value c =
    search none_end

pub returns-clause-words_after : goal.returns-clause-words_after
returns-clause-words_after c =
    search none-held
