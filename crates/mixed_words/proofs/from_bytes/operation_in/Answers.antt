-- `mixed_words::from_bytes::operation_in` meets its contract: the sections lie in the table, or not.
-- Assumes nothing.
use Rattle.mixed_words.proofs.SixOperations.{lies, lies-not}
use Rattle.mixed_words.proofs.from_bytes.operation_in.Goals as goal

pub returns-then-within : goal.returns-then-within
returns-then-within c =
    search lies

pub returns-else-within : goal.returns-else-within
returns-else-within c =
    search lies-not
