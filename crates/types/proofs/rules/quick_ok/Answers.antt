-- `types::rules::quick_ok` meets its contract: the fields first, and then what they point to.
-- Assumes nothing.
use Rattle.std.proofs.Common.{rules}
use Rattle.table.proofs.Fields.{enum-inside, record-inside}
use Rattle.types.proofs.TypePasses.{quick-enum, quick-record, quick-rest, quick-bad}
use Rattle.types.proofs.rules.quick_ok.Goals as goal

pub in_order-requires : goal.in_order-requires
in_order-requires c =
    (search rules, search enum-inside)

pub members_ok-requires : goal.members_ok-requires
members_ok-requires c =
    (search rules, search record-inside)

pub returns-in-1 : goal.returns-in-1
returns-in-1 c =
    search quick-enum

pub returns-in-2 : goal.returns-in-2
returns-in-2 c =
    search quick-record

pub returns-in_default : goal.returns-in_default
returns-in_default c =
    search quick-rest

pub returns-else-fields_ok : goal.returns-else-fields_ok
returns-else-fields_ok c =
    search quick-bad
