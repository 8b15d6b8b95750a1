-- `replay::read_on` meets its contract: lines that are owed come first, and what is left is shorter than the input.
-- Assumes nothing.
use borrow.Author.Rules.{rules}
use Rattle.replay.proofs.Bounds.{filled-part, left-within, kept-room, not_owed}
use Rattle.replay.proofs.player.read_on.Goals as goal

pub slice_bounds-next-end-2 : goal.slice_bounds-next-end-2
slice_bounds-next-end-2 g c =
    search filled-part

pub overflow_sub-filled : goal.overflow_sub-filled
overflow_sub-filled g c =
    search left-within

pub read_behind-requires : goal.read_behind-requires
read_behind-requires g c =
    (search rules, search kept-room)

pub returns-in-Unfinished-clause-value : goal.returns-in-Unfinished-clause-value
returns-in-Unfinished-clause-value g c =
    search not_owed

pub returns-in-Nothing-clause-value : goal.returns-in-Nothing-clause-value
returns-in-Nothing-clause-value g c =
    search not_owed
