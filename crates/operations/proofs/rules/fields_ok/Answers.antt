-- `operations::rules::fields_ok` meets its contract: the tests that are left at each kind.
-- Assumes nothing.
use Rattle.operations.proofs.Fields.{id-of-none, carries-a-type, carries-none, request-fields, request-fails, unknown-kind}
use Rattle.operations.proofs.rules.fields_ok.Goals as goal

pub returns-then-o-ge-NO_ID : goal.returns-then-o-ge-NO_ID
returns-then-o-ge-NO_ID c =
    search id-of-none

pub returns-then-o-types : goal.returns-then-o-types
returns-then-o-types c =
    search carries-a-type

pub returns-else-o-types : goal.returns-else-o-types
returns-else-o-types c =
    search carries-none

pub returns-then-type_or_none : goal.returns-then-type_or_none
returns-then-type_or_none c =
    search request-fields

pub returns-else-type_or_none : goal.returns-else-type_or_none
returns-else-type_or_none c =
    search request-fails

pub returns-else-is_wide : goal.returns-else-is_wide
returns-else-is_wide c =
    search unknown-kind
