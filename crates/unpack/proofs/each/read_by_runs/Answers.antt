-- `unpack::each::read_by_runs` meets its contract: runs of one leaf each are leaves of their codes.
-- Assumes nothing.
use lib.ListN.{replicate}
use Rattle.unpack.proofs.SingleRuns.{codes_there, single-going}
use Rattle.unpack.proofs.each.read_by_runs.Goals as goal

pub returns-then-are_single : goal.returns-then-are_single
returns-then-are_single c =
    let are = c.are_single.ensures.1 c.if-are_single.true in
    single-going _ _ (codes_there _ (replicate 64 0) c.are_single.new.codes c.are_single.ensures.0 are.0) are.1 _ _
    c.read_coded.ensures
