use Rattle.joiner.proofs.Making.{made_more, made_all}
use Rattle.joiner.proofs.setups.fresh.Goals as goal

pub loop-i-preserved : goal.loop-i-preserved
loop-i-preserved c =
    search made_more

pub returns : goal.returns
returns c =
    search made_all
