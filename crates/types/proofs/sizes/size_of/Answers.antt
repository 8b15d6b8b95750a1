-- `types::sizes::size_of` meets its contract: the arms are the kinds.
-- Assumes nothing.
use Rattle.types.proofs.SizeLaws.{base-size, enum-size, record-size, fixed-size, array_size, no_size}
use Rattle.types.proofs.sizes.size_of.Goals as goal

pub returns-in-0 : goal.returns-in-0
returns-in-0 g c =
    search base-size

pub returns-in-1 : goal.returns-in-1
returns-in-1 g c =
    search enum-size

pub returns-in-2 : goal.returns-in-2
returns-in-2 g c =
    search record-size

pub returns-in-3 : goal.returns-in-3
returns-in-3 g c =
    search fixed-size

pub returns-in-4 : goal.returns-in-4
returns-in-4 g c =
    search array_size

pub returns-in_default : goal.returns-in_default
returns-in_default g c =
    search no_size
