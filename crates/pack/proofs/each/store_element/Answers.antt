-- `pack::each::store_element` meets its contract: where there is no room nothing is stored.
-- Assumes nothing.
use Rattle.pack.proofs.PlanStores.{runs-outside}
use Rattle.pack.proofs.each.store_element.Goals as goal

pub returns-else-p-out : goal.returns-else-p-out
returns-else-p-out c =
    search runs-outside
