-- `types::value_ok` meets its contract: the value as it is read.
-- Assumes nothing.
use Rattle.types.proofs.OneValue.{judged_value}
use Rattle.types.proofs.enums.value_ok.Goals as goal

pub returns : goal.returns
returns c =
    search judged_value
