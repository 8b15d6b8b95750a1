use Rattle.wire.proofs.AllBelow.{none_below}
use Rattle.unpack_leaves.proofs.AmongValues.{among_next, among-stop}
use Rattle.unpack_leaves.proofs.enums.each_among.Goals as goal

pub loop-k-init : goal.loop-k-init
loop-k-init c =
    none_below _

pub returns-then-not-among_at : goal.returns-then-not-among_at
returns-then-not-among_at c =
    search among-stop

pub loop-k-preserved : goal.loop-k-preserved
loop-k-preserved c =
    search among_next
