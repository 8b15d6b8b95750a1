-- `channel::steps::stepped` meets its contract: repeated, or placed on the record as noted.
-- Assumes nothing.
use borrow.Author.Rules.{rules}
use Rattle.channel.proofs.Stepping.{noted-empty, noted-steppable, stepped-repeated, stepped-placed}
use Rattle.channel.proofs.steps.stepped.Goals as goal

pub placed-requires : goal.placed-requires
placed-requires c =
    search (rules, noted-steppable)

pub after_loss-requires : goal.after_loss-requires
after_loss-requires c =
    search noted-empty

pub returns-then-is_repeated : goal.returns-then-is_repeated
returns-then-is_repeated c =
    search stepped-repeated

pub returns-then-missed-eq0 : goal.returns-then-missed-eq0
returns-then-missed-eq0 c =
    search stepped-placed

pub returns-else-missed-eq0 : goal.returns-else-missed-eq0
returns-else-missed-eq0 c =
    search stepped-placed
