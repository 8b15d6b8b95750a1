use Rattle.plan.proofs.Rows.{row-start-end, row-start-held, part_room, part_end, part_held}
use Rattle.plan.proofs.runs.add_row.Goals as goal

pub loop-k-init : goal.loop-k-init
loop-k-init c =
    (search row-start-held, search row-start-end)

pub add_type-to-requires-clause-room : goal.add_type-to-requires-clause-room
add_type-to-requires-clause-room c =
    search part_room

pub loop-k-preserved : goal.loop-k-preserved
loop-k-preserved c =
    (search part_held, search part_end)
