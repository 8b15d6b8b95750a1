use borrow.Author.Rules.{rules}
use Rattle.walk.proofs.Fours.{four-in, rest_in}
use Rattle.unpack_leaves.proofs.Fours.{none_yet, four-more, rest_more}
use Rattle.unpack_leaves.proofs.runs.store_fours.Goals as goal

pub loop-k-init : goal.loop-k-init
loop-k-init c =
    search none_yet

pub store-requires : goal.store-requires
store-requires c =
    (search four-in, search rules)

pub loop-k-preserved : goal.loop-k-preserved
loop-k-preserved c =
    search four-more

pub store-requires-2 : goal.store-requires-2
store-requires-2 c =
    (search rest_in, search rules)

pub returns : goal.returns
returns c =
    search rest_more
