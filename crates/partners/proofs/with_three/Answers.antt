-- `partners::with_three` meets its contract.
-- Assumes nothing.
use Rattle.partners.proofs.Returns.{bit-set, bit-off}
use Rattle.partners.proofs.with_three.Goals as goal

pub returns-then-three : goal.returns-then-three
returns-then-three c =
    search bit-set

pub returns-else-three : goal.returns-else-three
returns-else-three c =
    search bit-off
