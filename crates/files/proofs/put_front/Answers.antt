-- `files::put_front` meets its contract: only the bytes of the run change.
-- Assumes nothing.
use Rattle.files.proofs.Filling.{before-kept, more_behind}
use Rattle.files.proofs.put_front.Goals as goal

pub returns-clause-buffer_unchanged : goal.returns-clause-buffer_unchanged
returns-clause-buffer_unchanged c =
    search before-kept

pub returns-clause-buffer_unchanged_2 : goal.returns-clause-buffer_unchanged_2
returns-clause-buffer_unchanged_2 c =
    search more_behind
