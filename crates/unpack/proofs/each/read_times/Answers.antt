use Rattle.unpack.proofs.EachByPlan.{each_from, each_in, each_next}
use Rattle.unpack.proofs.each.read_times.Goals as goal

pub store_runs-requires : goal.store_runs-requires
store_runs-requires c =
    (search each_from, search each_in)

pub loop-k-preserved : goal.loop-k-preserved
loop-k-preserved c =
    search each_next
