-- `nyrkovash::telling::composite_three` meets its contract: a status alone tells one.
-- Assumes nothing.
use Rattle.nyrkovash.proofs.IssueWords.{no-composite}
use Rattle.nyrkovash.proofs.telling.composite_three.Goals as goal

pub returns-in_default : goal.returns-in_default
returns-in_default c =
    no-composite _ c.in_default.not-PlatformStatus
