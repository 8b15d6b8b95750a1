-- `mixed::receive` meets its contract: the table is refused, or its sections are taken.
-- Assumes nothing.
use Rattle.std.proofs.Common.{rules}
use Rattle.mixed.specs.Tables.{answer_if, out_if, pending_if, words_if}
use Rattle.mixed.proofs.receive.Goals as goal

pub returns-in-Err : goal.returns-in-Err
unfolding answer_if out_if pending_if words_if
returns-in-Err c = search rules

pub returns-in-Ok : goal.returns-in-Ok
unfolding answer_if out_if pending_if words_if
returns-in-Ok c = search rules
