-- `mixed::form_of` meets its contract: by byte 2 and its sender.
-- Assumes nothing.
use Rattle.mixed.proofs.Readings.{three-found, other-found, six-found}
use Rattle.mixed.proofs.reader.form_of.Goals as goal

pub returns-then-three_form : goal.returns-then-three_form
returns-then-three_form c =
    search three-found

pub returns-then-is_three : goal.returns-then-is_three
returns-then-is_three c =
    search other-found

pub returns : goal.returns
returns c =
    search six-found
