use Rattle.wire.proofs.AllBelow.{none_below}
use Rattle.wire.proofs.Rising.{carried_none}
use Rattle.types.proofs.ValueRules.{order-next, order-carried, order-ends, order_done}
use Rattle.types.proofs.values.in_order.Goals as goal

pub loop-k-init : goal.loop-k-init
loop-k-init c =
    (search none_below, search carried_none)

pub loop-k-preserved : goal.loop-k-preserved
loop-k-preserved c =
    (search order-next, search order-carried)

pub returns-else-k-last : goal.returns-else-k-last
returns-else-k-last c =
    search order-ends

pub returns : goal.returns
returns c =
    search order_done
