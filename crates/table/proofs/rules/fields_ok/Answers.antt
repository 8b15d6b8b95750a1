-- `table::fields_ok` meets its contract: the arms are the kinds.
-- Assumes nothing.
use Rattle.table.proofs.Fields.{base-entry, enum-entry, record-entry, fixed-entry, array-entry, no_entry}
use Rattle.table.proofs.rules.fields_ok.Goals as goal

pub returns-in-0 : goal.returns-in-0
returns-in-0 c =
    search base-entry

pub returns-in-1 : goal.returns-in-1
returns-in-1 c =
    search enum-entry

pub returns-in-2 : goal.returns-in-2
returns-in-2 c =
    search record-entry

pub returns-in-3 : goal.returns-in-3
returns-in-3 c =
    search fixed-entry

pub returns-in-4 : goal.returns-in-4
returns-in-4 c =
    search array-entry

pub returns-in_default : goal.returns-in_default
returns-in_default c =
    search no_entry
