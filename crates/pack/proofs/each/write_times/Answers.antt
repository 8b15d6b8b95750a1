use borrow.Author.Rules.{rules}
use Rattle.pack.proofs.PlanEach.{each_from, each-most, each_next}
use Rattle.pack.proofs.each.write_times.Goals as goal

pub store_element-requires : goal.store_element-requires
store_element-requires c =
    (search rules, search each_from, search each-most)

pub loop-k-preserved : goal.loop-k-preserved
loop-k-preserved c =
    search each_next
