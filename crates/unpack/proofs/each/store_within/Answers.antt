use Rattle.unpack_leaves.proofs.Loops.{cut-stored, all_stored, next-room, next-stored, behind-in}
use Rattle.unpack.proofs.each.store_within.Goals as goal

pub returns-then-payload-from : goal.returns-then-payload-from
returns-then-payload-from c =
    search cut-stored

pub loop-k-preserved : goal.loop-k-preserved
loop-k-preserved c =
    (search next-stored, search (behind-in, next-room))

pub returns : goal.returns
returns c =
    search all_stored
