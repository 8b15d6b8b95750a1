-- `plan::front::lay_within` meets its contract: too short, or laid out.
-- Assumes nothing.
use borrow.Author.Rules.{rules}
use Rattle.std.proofs.Common.{ap}
use Rattle.refusal.specs.Refusal.{verdict_of}
use Rattle.plan.proofs.WholePlans.{short-number, short-held, laid-number, laid-held, counts-room}
use Rattle.plan.proofs.front.lay_within.Goals as goal

pub returns-then-words-n-clause-value : goal.returns-then-words-n-clause-value
returns-then-words-n-clause-value c =
    ap verdict_of {x = 10} (search short-number)

pub returns-then-words-n-clause-words_after : goal.returns-then-words-n-clause-words_after
returns-then-words-n-clause-words_after c =
    search short-held

pub lay_out-requires-clause-counts_in_bounds : goal.lay_out-requires-clause-counts_in_bounds
lay_out-requires-clause-counts_in_bounds c =
    counts-room _ _ c.args.words.now _ _ c.requires.1 c.fill.ensures c.sum.ensures.0 c.if-words-n.false (search rules)

pub returns-clause-value : goal.returns-clause-value
returns-clause-value c =
    ap verdict_of {x = 0} (search laid-number)

pub returns-clause-words_after : goal.returns-clause-words_after
returns-clause-words_after c =
    search laid-held
