-- `types::inside::type_in` meets its contract: each field stands at its place.
-- Assumes nothing.
use Rattle.types.proofs.Insides.{type-inside}
use Rattle.types.proofs.inside.type_in.Goals as goal

pub returns : goal.returns
returns c =
    search type-inside
