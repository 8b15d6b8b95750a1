-- `message::read` meets its contract: the refusal, or what the bytes say.
-- Assumes nothing.
use Rattle.message.proofs.Readings.{read_in, read-not}
use Rattle.message.proofs.reader.read.Goals as goal

pub returns-then-number-eq0 : goal.returns-then-number-eq0
returns-then-number-eq0 c =
    search read_in

pub returns-else-number-eq0 : goal.returns-else-number-eq0
returns-else-number-eq0 c =
    search read-not
