use Rattle.std.proofs.Common.{rules}
use Rattle.types.proofs.SizeLaws.{sum-none, sum_more}
use Rattle.types.proofs.sizes.sum.Goals as goal

pub loop-k-init : goal.loop-k-init
loop-k-init g c =
    (search sum-none, search rules)

pub loop-k-preserved : goal.loop-k-preserved
loop-k-preserved g c =
    (search sum_more, search rules)
