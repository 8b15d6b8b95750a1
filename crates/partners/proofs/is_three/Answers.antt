-- `partners::is_three` meets its contract.
-- Assumes nothing.
use Rattle.partners.proofs.Returns.{three_is}
use Rattle.partners.proofs.is_three.Goals as goal

pub returns : goal.returns
returns c =
    search three_is
