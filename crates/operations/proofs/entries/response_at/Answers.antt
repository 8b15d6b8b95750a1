-- `operations::entries::response_at` meets its contract: only a wide entry has it.
-- Assumes nothing.
use Rattle.operations.proofs.Places.{responds-with, no_response, responds-last, ends_behind}
use Rattle.operations.proofs.entries.response_at.Goals as goal

pub ending_at-requires-clause-le_end : goal.ending_at-requires-clause-le_end
ending_at-requires-clause-le_end c =
    search ends_behind

pub returns-then-has_room : goal.returns-then-has_room
returns-then-has_room c =
    search responds-last

pub returns-then-is_wide : goal.returns-then-is_wide
returns-then-is_wide c =
    search responds-with

pub returns-else-is_wide : goal.returns-else-is_wide
returns-else-is_wide c =
    search no_response
