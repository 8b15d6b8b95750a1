-- `unpack::by_plan::words_of` meets its contract.
-- Assumes nothing.
use borrow.Author.Rules.{rules}
use Rattle.unpack.specs.RunByRun.{words_of}
use Rattle.unpack.proofs.by_plan.words_of.Goals as goal

pub returns-in-Went : goal.returns-in-Went
unfolding words_of
returns-in-Went c = search rules

pub returns-in-Stopped : goal.returns-in-Stopped
unfolding words_of
returns-in-Stopped c = search rules
