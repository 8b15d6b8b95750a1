-- `pack::by_plan::among_all` meets its contract.
-- Assumes nothing.
use borrow.Author.Rules.{rules}
use Rattle.pack.proofs.PlanLeaves.{any-taken}
use Rattle.pack.proofs.Anew.{there_anew, among_anew}
use Rattle.pack.proofs.by_plan.among_all.Goals as goal

pub returns-then-count-eq0 : goal.returns-then-count-eq0
returns-then-count-eq0 c t = search any-taken

pub are_among-requires : goal.are_among-requires
are_among-requires c = search there_anew

pub returns : goal.returns
returns c t =
    let start = c.args in
    among_anew start.words.now start.table.now start.run start.from _ _ _ (c.are_among.ensures t) (search rules) (search rules) (search rules)
