-- `channel::room_start` meets its contract: the product fits.
-- Assumes nothing.
use native.Mathlib.Omega.{arith}
use Rattle.channel.proofs.Movable.{product_fits}
use Rattle.channel.proofs.room_start.Goals as goal

pub overflow_mul-result : goal.overflow_mul-result
overflow_mul-result c =
    product_fits _ _ (omega arith) (omega arith)
