-- `types::sizes::bytes_up_to` meets its contract: up to the limit and over it.
-- Assumes nothing.
use Rattle.types.proofs.SizeLaws.{up_to, over_it}
use Rattle.types.proofs.sizes.bytes_up_to.Goals as goal

pub returns-then-size-le65536 : goal.returns-then-size-le65536
returns-then-size-le65536 c =
    search up_to

pub returns-else-size-le65536 : goal.returns-else-size-le65536
returns-else-size-le65536 c =
    search over_it
