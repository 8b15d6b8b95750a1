use borrow.Author.Rules.{rules}
use Rattle.pack_leaves.proofs.Fours.{none_yet, four-room, four-more, rest-room, rest_more}
use Rattle.pack_leaves.proofs.runs.store_fours.Goals as goal

pub loop-k-init : goal.loop-k-init
loop-k-init c =
    search none_yet

pub store_each-requires : goal.store_each-requires
store_each-requires c =
    (search rules, search four-room)

pub loop-k-preserved : goal.loop-k-preserved
loop-k-preserved c =
    search four-more

pub store_each-requires-2 : goal.store_each-requires-2
store_each-requires-2 c =
    (search rules, search rest-room)

pub returns : goal.returns
returns c =
    search rest_more
