-- `types::inside::member_in` meets its contract: the number at its place.
-- Assumes nothing.
use Rattle.types.proofs.Insides.{member-inside}
use Rattle.types.proofs.inside.member_in.Goals as goal

pub returns : goal.returns
returns c =
    search member-inside
