-- `walk::runs::base_codes` meets its contract: the codes at the places of the table's sections.
-- Assumes nothing.
use Rattle.walk.proofs.Parts.{count-placed, codes_placed, none_left, none_kept}
use Rattle.walk.proofs.runs.base_codes.Goals as goal

pub returns-then-e-from-clause-value : goal.returns-then-e-from-clause-value
returns-then-e-from-clause-value c =
    search none_left

pub returns-then-e-from-clause-codes_after : goal.returns-then-e-from-clause-codes_after
returns-then-e-from-clause-codes_after c =
    search none_kept

pub returns-clause-value : goal.returns-clause-value
returns-clause-value c =
    search count-placed

pub returns-clause-codes_after : goal.returns-clause-codes_after
returns-clause-codes_after c =
    search codes_placed
