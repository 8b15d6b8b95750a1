-- `payload::stopped_at` meets its contract.
-- Assumes nothing.
use Rattle.payload.proofs.Calls.{by-rule, by-walk}
use Rattle.payload.proofs.stopped_at.Goals as goal

pub returns-then-n-eq-RULE_BROKEN : goal.returns-then-n-eq-RULE_BROKEN
returns-then-n-eq-RULE_BROKEN c =
    search by-rule

pub returns-else-n-eq-RULE_BROKEN : goal.returns-else-n-eq-RULE_BROKEN
returns-else-n-eq-RULE_BROKEN c =
    search by-walk
