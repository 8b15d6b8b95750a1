use borrow.Author.Rules.{rules}
use Rattle.replay.proofs.Bounds.{filled-part, more-filled, more_left, more-counted, rooms-fit, refusal-is-20}
use Rattle.replay.proofs.player.begin.Goals as goal

pub slice_bounds-open-end-in-loop-from : goal.slice_bounds-open-end-in-loop-from
slice_bounds-open-end-in-loop-from g c =
    search filled-part

pub overflow_add-filled : goal.overflow_add-filled
overflow_add-filled g c =
    search more-counted

pub loop-from-smaller : goal.loop-from-smaller
loop-from-smaller g c =
    search more_left

pub loop-from-preserved : goal.loop-from-preserved
loop-from-preserved g c =
    (search rules, search rules, search more-filled)

pub returns-in-Nothing : goal.returns-in-Nothing
returns-in-Nothing g c =
    (search rules, search rooms-fit, search refusal-is-20)

pub returns-in-Failed : goal.returns-in-Failed
returns-in-Failed g c =
    (search rules, search rooms-fit, search refusal-is-20)

pub returns-in_default : goal.returns-in_default
returns-in_default g c =
    (search rules, search rooms-fit, search refusal-is-20)

pub returns-in_default-2 : goal.returns-in_default-2
returns-in_default-2 g c =
    (search rules, search rooms-fit, search refusal-is-20)
