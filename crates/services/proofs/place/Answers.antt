-- `services::place`: its loop and its returns, by the laws of `Places`.
use Rattle.services.proofs.Places.{found_here, not-here, found_nowhere}
use Rattle.services.proofs.place.Goals as goal

pub returns-then-is_place_for : goal.returns-then-is_place_for
returns-then-is_place_for c =
    search found_here

pub loop-i-preserved : goal.loop-i-preserved
loop-i-preserved c =
    search not-here

pub returns : goal.returns
returns c =
    search found_nowhere
