-- `mixed::read` meets its contract: by its form.
-- Assumes nothing.
use Rattle.mixed.proofs.Readings.{by_three, not-its-issue, by-six}
use Rattle.mixed.proofs.reader.read.Goals as goal

pub returns-in-Three : goal.returns-in-Three
returns-in-Three c =
    search by_three

pub returns-in-Six : goal.returns-in-Six
returns-in-Six c =
    search by-six

pub returns-in-Other : goal.returns-in-Other
returns-in-Other c =
    search not-its-issue
