-- `mixed::three_form` meets its contract: byte 2 and byte 3.
-- Assumes nothing.
use Rattle.mixed.proofs.Readings.{the_form}
use Rattle.mixed.proofs.reader.three_form.Goals as goal

pub returns : goal.returns
returns c =
    search the_form
