use Rattle.pending.proofs.Returns.{drawn-on, is_free, last-draw}
use Rattle.pending.proofs.next_free.Goals as goal

pub returns-then-not-is_blocked : goal.returns-then-not-is_blocked
returns-then-not-is_blocked c =
    search is_free

pub loop-preserved : goal.loop-preserved
loop-preserved c =
    search drawn-on

pub returns : goal.returns
returns c =
    search last-draw
