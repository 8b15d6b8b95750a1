-- `joiner::records::record_in` meets its contract: the four words of the record.
-- Assumes nothing.
use Rattle.joiner.proofs.Looks.{id_fits}
use Rattle.joiner.proofs.records.record_in.Goals as goal

pub overflow_cast-result : goal.overflow_cast-result
overflow_cast-result c =
    search id_fits
