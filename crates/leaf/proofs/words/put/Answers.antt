-- `leaf::put` meets its contract: each arm writes the bytes of its width.
-- Assumes nothing.
use Rattle.leaf.proofs.Returns.{put_form, put_whole, no_form}
use Rattle.leaf.proofs.words.put.Goals as goal

pub returns-in-1 : goal.returns-in-1
returns-in-1 c =
    search (put_form 0)

pub returns-in-2 : goal.returns-in-2
returns-in-2 c =
    search (put_form 1)

pub returns-in-4 : goal.returns-in-4
returns-in-4 c =
    search (put_form 2)

pub returns-in-8 : goal.returns-in-8
returns-in-8 c =
    search put_whole

pub returns-in_default : goal.returns-in_default
returns-in_default c =
    search no_form
