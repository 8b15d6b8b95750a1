-- `partners::block_start` meets its contract: 256 blocks of 256 words are few enough.
-- Assumes nothing.
use Rattle.partners.proofs.Returns.{start_fits}
use Rattle.partners.proofs.block_start.Goals as goal

pub overflow_mul-result : goal.overflow_mul-result
overflow_mul-result c =
    search start_fits
