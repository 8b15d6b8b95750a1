use Rattle.pending.proofs.Returns.{borne-on, borne-all}
use Rattle.pending.proofs.is_borne.Goals as goal

pub loop-k-preserved : goal.loop-k-preserved
loop-k-preserved c =
    search borne-on

pub returns : goal.returns
returns c =
    search borne-all
