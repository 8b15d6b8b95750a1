-- `joiner::records::are_good` meets its contract: by one pass, or each by itself.
-- Assumes nothing.
use Rattle.joiner.proofs.Looks.{good_rising}
use Rattle.joiner.proofs.records.are_good.Goals as goal

pub returns-then-rise : goal.returns-then-rise
returns-then-rise c =
    search good_rising
