-- `operations::entries::head_at` meets its contract: the parts of the number that stands there.
-- Assumes nothing.
use Rattle.operations.proofs.Heads.{head-kind}
use Rattle.operations.proofs.entries.head_at.Goals as goal

pub returns-clause-kind : goal.returns-clause-kind
returns-clause-kind c =
    search head-kind
