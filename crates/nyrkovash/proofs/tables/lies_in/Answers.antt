-- `nyrkovash::lies_in` meets its contract: its three tests.
-- Assumes nothing.
use Rattle.nyrkovash.proofs.AsTheyLie.{bytes_fit, end_fits, too_many, tested}
use Rattle.nyrkovash.proofs.tables.lies_in.Goals as goal

pub returns-then-most-count : goal.returns-then-most-count
returns-then-most-count c =
    search too_many

pub overflow_mul-result : goal.overflow_mul-result
overflow_mul-result c =
    search bytes_fit

pub overflow_add-result : goal.overflow_add-result
overflow_add-result c =
    search end_fits

pub returns : goal.returns
returns c =
    search tested
