use borrow.Author.Rules.{rules}
use Rattle.unpack.proofs.StoredRuns.{place_start, stored_start, some_fit, place-next, bytes-in, from-fits, stored_next}
use Rattle.unpack.proofs.Upto.{none_stored}
use Rattle.unpack.proofs.by_plan.store_runs.Goals as goal

pub returns-then-words-p : goal.returns-then-words-p
returns-then-words-p c =
    search none_stored

pub loop-run-init : goal.loop-run-init
loop-run-init c =
    (search stored_start, search place_start, search rules)

pub store_leaves-requires : goal.store_leaves-requires
store_leaves-requires c =
    search bytes-in

pub overflow_mul-from : goal.overflow_mul-from
overflow_mul-from c =
    search some_fit

pub overflow_add-from : goal.overflow_add-from
overflow_add-from c =
    search from-fits

pub loop-run-preserved : goal.loop-run-preserved
loop-run-preserved c =
    (search stored_next, search place-next, search rules)
