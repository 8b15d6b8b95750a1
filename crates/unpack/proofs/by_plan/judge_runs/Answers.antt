use borrow.Author.Rules.{rules}
use Rattle.unpack_leaves.proofs.WholeRuns.{bytes_fit}
use Rattle.unpack.proofs.GoodRuns.{run-next, run-next-from}
use Rattle.unpack.proofs.LeafByLeaf.{all-judged, rest-judged}
use Rattle.unpack.proofs.by_plan.judge_runs.Goals as goal

pub overflow_mul-bytes : goal.overflow_mul-bytes
overflow_mul-bytes c =
    search bytes_fit

pub returns-then-not-is_good : goal.returns-then-not-is_good
returns-then-not-is_good c =
    rest-judged _ _ _ (search rules) _ c.judge_rest.ensures

pub overflow_add-from : goal.overflow_add-from
overflow_add-from c =
    search run-next-from

pub loop-k-preserved : goal.loop-k-preserved
loop-k-preserved c =
    search run-next

pub returns : goal.returns
returns c =
    search all-judged
