-- `types::alike::all_distinct` meets its contract: the section is no longer than it may be, or longer.
-- Assumes nothing.
use Rattle.types.proofs.Distinctness.{few_values, many-values}
use Rattle.types.proofs.alike.all_distinct.Goals as goal

pub returns-then-s-le-MOST_VALUES : goal.returns-then-s-le-MOST_VALUES
returns-then-s-le-MOST_VALUES c =
    search few_values

pub returns-else-s-le-MOST_VALUES : goal.returns-else-s-le-MOST_VALUES
returns-else-s-le-MOST_VALUES c =
    search many-values
