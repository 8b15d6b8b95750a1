use Rattle.std.proofs.Common.{refl, rules}
use Rattle.recording.proofs.Finding.{found-fits}
use Rattle.recording.proofs.Playing.{play-on, play-full, play-unfinished, play-over, play_less}
use Rattle.recording.proofs.play.Goals as goal

pub loop-start-init : goal.loop-start-init
loop-start-init c =
    (search rules, search rules, refl)

pub overflow_add-start : goal.overflow_add-start
overflow_add-start c =
    search (rules, found-fits)

pub loop-start-smaller : goal.loop-start-smaller
loop-start-smaller c =
    search play_less

pub loop-start-preserved : goal.loop-start-preserved
loop-start-preserved c =
    (search rules, search rules, search play-on)

pub returns-else-has_room : goal.returns-else-has_room
returns-else-has_room c =
    search play-full

pub returns-in-Unfinished : goal.returns-in-Unfinished
returns-in-Unfinished c =
    search play-unfinished

pub returns-in-Nothing : goal.returns-in-Nothing
returns-in-Nothing c =
    search play-over
