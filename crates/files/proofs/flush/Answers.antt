-- `files::flush` meets its contract: nothing to write, or bytes that were.
-- Assumes nothing.
use Rattle.files.proofs.Writing.{some_bytes}
use Rattle.files.proofs.flush.Goals as goal

pub returns-in-Err : goal.returns-in-Err
returns-in-Err g c =
    search some_bytes
