-- `pack_leaves::bases::set` meets its contract: each arm writes the bytes of its width.
-- Assumes nothing.
use Rattle.leaf.proofs.Returns.{no_form}
use Rattle.pack_leaves.proofs.Laid.{set-byte, set_form, set_whole}
use Rattle.pack_leaves.proofs.bases.set.Goals as goal

pub returns-in-1 : goal.returns-in-1
returns-in-1 c =
    search set-byte

pub returns-in-2 : goal.returns-in-2
returns-in-2 c =
    search (set_form 1)

pub returns-in-4 : goal.returns-in-4
returns-in-4 c =
    search (set_form 2)

pub returns-in-8 : goal.returns-in-8
returns-in-8 c =
    search set_whole

pub returns-in_default : goal.returns-in_default
returns-in_default c =
    search no_form
