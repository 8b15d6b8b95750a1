-- `types::alike::unlike_in` meets its contract: each number of the enum's part of the room passes.
-- Assumes nothing.
use Rattle.std.proofs.Common.{◌+◌, ◌-◌, leb, take, drop, ◌∙◌, rules, tests}
use Rattle.std.proofs.lemmas.Iterator.{YieldsList-from_slice}
use Rattle.std.proofs.lemmas.Iterator.Search.{all_from_yields_List}
use Rattle.types.proofs.Distinctness.{unlike_part}
use Rattle.types.proofs.alike.unlike_in.Goals as goal

pub returns : goal.returns
returns c =
    let room = c.args.room.now in
    let first = c.args.first in
    let n = c.args.count in
    let part = take (first + n - first) (drop first room) in
    all_from_yields_List (λ x. leb x first) _ _ c.all.result c.all.ensures.ran (YieldsList-from_slice part c.iter.ensures.rest)
    (λ x b q k. search (rules, tests))
    ∙ unlike_part room first n c.requires
