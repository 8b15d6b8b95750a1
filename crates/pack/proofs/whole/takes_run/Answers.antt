-- `pack::whole::takes_run` meets its contract.
-- Assumes nothing.
use mathlib.Core.Path.{sym}
use mathlib.Core.Bool.{true≢false}
use Rattle.pack.proofs.PlanLeaves.{one-taken}
use Rattle.pack.proofs.Anew.{many_inside}
use Rattle.pack.proofs.whole.takes_run.Goals as goal

pub returns-then-words-from : goal.returns-then-words-from
returns-then-words-from c t = absurd (true≢false (sym t))

pub returns-then-many-eq1 : goal.returns-then-many-eq1
returns-then-many-eq1 c t = search one-taken

pub takes_many-requires : goal.takes_many-requires
takes_many-requires c = search many_inside

pub returns : goal.returns
returns c t = c.takes_many.ensures t
