-- `unpack::store_codes` meets its contract: what there is no room for changes no word.
-- Assumes nothing.
use Rattle.unpack_leaves.proofs.Loops.{none_stored, no_room, room-stored}
use Rattle.unpack_leaves.proofs.by_codes.store_codes.Goals as goal

pub returns-then-payload-p : goal.returns-then-payload-p
returns-then-payload-p c =
    search none_stored

pub returns-then-words-p : goal.returns-then-words-p
returns-then-words-p c =
    search no_room

pub returns : goal.returns
returns c =
    search room-stored
