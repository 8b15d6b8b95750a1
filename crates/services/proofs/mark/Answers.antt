-- `services::mark`: its loop and its returns, by the laws of `Marking`.
use Rattle.services.proofs.Marking.{stops-here, goes_on, all-marked}
use Rattle.services.proofs.mark.Goals as goal

pub returns-then-is_free : goal.returns-then-is_free
returns-then-is_free c =
    search stops-here

pub loop-word-preserved : goal.loop-word-preserved
loop-word-preserved c =
    search goes_on

pub returns : goal.returns
returns c =
    search all-marked
