-- `message::Header::of_bytes` meets its contract: each field is the number at its place.
-- Assumes nothing.
use Rattle.message.proofs.Answers.{fields_read}
use Rattle.message.proofs.Header.of_bytes.Goals as goal

pub returns : goal.returns
returns c =
    search fields_read
