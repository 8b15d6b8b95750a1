-- `mixed::telling::put_pairs`: its loop and its return, by the laws of `ToldLaws`.
use Rattle.mixed.proofs.ToldLaws.{none_yet, one_more}
use Rattle.mixed.proofs.telling.put_pairs.Goals as goal

pub loop-i-init : goal.loop-i-init
loop-i-init c =
    search none_yet

pub loop-i-preserved : goal.loop-i-preserved
loop-i-preserved c =
    search one_more
