use Rattle.plan.proofs.Adding.{start-end, start-held, turn-room, turn_end, turn-held}
use Rattle.plan.proofs.runs.add_all.Goals as goal

pub loop-k-init : goal.loop-k-init
loop-k-init c =
    (search start-held, search start-end)

pub add-to-requires : goal.add-to-requires
add-to-requires c =
    search turn-room

pub loop-k-preserved : goal.loop-k-preserved
loop-k-preserved c =
    (search turn-held, search turn_end)
