-- `types::rules::enum_ok` meets its contract: an enum's fields first, and then its values.
-- Assumes nothing.
use Rattle.types.proofs.TypePasses.{enum-good, enum_bad}
use Rattle.types.proofs.rules.enum_ok.Goals as goal

pub returns-then-fields_ok-e : goal.returns-then-fields_ok-e
returns-then-fields_ok-e c =
    search enum-good

pub returns-else-fields_ok-e : goal.returns-else-fields_ok-e
returns-else-fields_ok-e c =
    search enum_bad
