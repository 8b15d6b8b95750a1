-- `walk::by_kind` meets its contract.
-- Assumes nothing.
use Rattle.walk.proofs.Trees.{a_leaf, a_record, an_array}
use Rattle.walk.proofs.by_kind.Goals as goal

pub returns-then-e-le-ENUM : goal.returns-then-e-le-ENUM
returns-then-e-le-ENUM c =
    search a_leaf

pub returns-then-e-eq-RECORD : goal.returns-then-e-eq-RECORD
returns-then-e-eq-RECORD c =
    search a_record

pub returns : goal.returns
returns c =
    search an_array
