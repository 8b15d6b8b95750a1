-- `joiner::is_good` meets its contract: it is judged in its words.
-- Assumes nothing.
use mathlib.Core.Path.{◌≡◌}
use borrow.Author.Rules.{rules}
use lib.ListN.{length}
use Rattle.channel.specs.Record.{channel_limit}
use Rattle.joiner.proofs.Making.{judged_good}
use Rattle.joiner.proofs.setups.is_good.Goals as goal

pub returns : goal.returns
returns c =
    let w : length c.args.joiner.channels ≡ channel_limit = search rules in
    search judged_good
