-- `recording::put_ending` meets its contract: the line of each ending.
-- Assumes nothing.
use Rattle.recording.proofs.LineLaws.{ending-end, ending-put}
use Rattle.recording.proofs.lines.put_ending.Goals as goal

pub returns-in-Whole-clause-value : goal.returns-in-Whole-clause-value
returns-in-Whole-clause-value c = search ending-end

pub returns-in-Whole-clause-output_after : goal.returns-in-Whole-clause-output_after
returns-in-Whole-clause-output_after c = search ending-put

pub returns-in-CutShort-clause-value : goal.returns-in-CutShort-clause-value
returns-in-CutShort-clause-value c = search ending-end

pub returns-in-CutShort-clause-output_after : goal.returns-in-CutShort-clause-output_after
returns-in-CutShort-clause-output_after c = search ending-put

pub returns-in-RefusedSetup-clause-value : goal.returns-in-RefusedSetup-clause-value
returns-in-RefusedSetup-clause-value c = search ending-end

pub returns-in-RefusedSetup-clause-output_after : goal.returns-in-RefusedSetup-clause-output_after
returns-in-RefusedSetup-clause-output_after c = search ending-put
