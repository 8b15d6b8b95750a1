-- `types::inside::value_in` meets its contract: the number at its place.
-- Assumes nothing.
use Rattle.types.proofs.Insides.{value-inside}
use Rattle.types.proofs.inside.value_in.Goals as goal

pub returns : goal.returns
returns c =
    search value-inside
