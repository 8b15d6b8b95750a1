-- `partners::bit_in` meets its contract.
-- Assumes nothing.
use Rattle.partners.proofs.Returns.{the_bit}
use Rattle.partners.proofs.bit_in.Goals as goal

pub returns : goal.returns
returns c =
    search the_bit
