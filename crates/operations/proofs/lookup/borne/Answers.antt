-- `operations::lookup::borne` meets its contract: the bytes are there and bear the ID, or not.
-- Assumes nothing.
use Rattle.operations.proofs.Looking.{too_short, bears-another, is-borne, not-whole}
use Rattle.operations.proofs.lookup.borne.Goals as goal

pub returns-then-has_room-2 : goal.returns-then-has_room-2
returns-then-has_room-2 c =
    search is-borne

pub returns-else-has_room-2 : goal.returns-else-has_room-2
returns-else-has_room-2 c =
    search not-whole

pub returns-else-id_of-id : goal.returns-else-id_of-id
returns-else-id_of-id c =
    search bears-another

pub returns-else-has_room : goal.returns-else-has_room
returns-else-has_room c =
    search too_short
