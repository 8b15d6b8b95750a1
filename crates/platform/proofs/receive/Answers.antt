-- `platform::receive` meets its contract: the table is judged first.
-- Assumes nothing.
use Rattle.std.proofs.Common.{rules}
use Rattle.platform.specs.Receiving.{received_by, received_of, left_if, left_of, list_if, list_after}
use Rattle.platform.proofs.receive.Goals as goal

pub returns-in-Err : goal.returns-in-Err
unfolding received_of received_by left_of left_if list_after list_if
returns-in-Err c = search rules

pub returns-in-Ok : goal.returns-in-Ok
unfolding received_of received_by left_of left_if list_after list_if
returns-in-Ok c = search rules
