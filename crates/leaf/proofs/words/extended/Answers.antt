-- `leaf::extended` meets its contract.
-- Assumes nothing.
use Rattle.leaf.proofs.Signs.{carried_fits}
use Rattle.leaf.proofs.words.extended.Goals as goal

pub overflow_add-result : goal.overflow_add-result
overflow_add-result c =
    search carried_fits
