use Rattle.unpack.proofs.ByCodes.{coded-next}
use Rattle.unpack.proofs.each.read_coded.Goals as goal

pub loop-k-preserved : goal.loop-k-preserved
loop-k-preserved c =
    search coded-next
