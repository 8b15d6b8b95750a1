-- `recording::put_number` meets its contract: the space and the digits, made at the end of an array, are written in one.
-- Assumes nothing.
use Rattle.recording.proofs.Putting.{word_end, word-put}
use Rattle.recording.proofs.text.put_number.Goals as goal

pub returns-clause-value : goal.returns-clause-value
returns-clause-value c =
    search word_end

pub returns-clause-output_after : goal.returns-clause-output_after
returns-clause-output_after c =
    search word-put
