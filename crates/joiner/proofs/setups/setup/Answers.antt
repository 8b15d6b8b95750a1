-- `joiner::setup` meets its contract: a fresh joiner that was judged as any is, or the refusal.
-- Assumes nothing.
use Rattle.joiner.proofs.Making.{set_up, not_good, too_many}
use Rattle.joiner.proofs.setups.setup.Goals as goal

pub returns-then-is_good : goal.returns-then-is_good
returns-then-is_good c =
    search set_up

pub returns-then-ids-le-CHANNELS : goal.returns-then-ids-le-CHANNELS
returns-then-ids-le-CHANNELS c =
    search not_good

pub returns : goal.returns
returns c =
    search too_many
