use Rattle.joiner.proofs.Looks.{risen-more, risen_all}
use Rattle.joiner.proofs.records.rise.Goals as goal

pub loop-i-preserved : goal.loop-i-preserved
loop-i-preserved c =
    search risen-more

pub returns : goal.returns
returns c =
    search risen_all
