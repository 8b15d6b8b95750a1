use Rattle.pack.proofs.WholeStores.{at_start, none_stored, run_wide, bytes_fit}
use Rattle.pack.proofs.WholeStores.{next-at, next-words, next-room, next-from-fits, next-to-fits, next-stored}
use Rattle.pack.proofs.whole.store_whole.Goals as goal

pub loop-run-init : goal.loop-run-init
loop-run-init c =
    (search none_stored, search at_start)

pub overflow_mul-bytes : goal.overflow_mul-bytes
overflow_mul-bytes c =
    search bytes_fit

pub store_run-requires : goal.store_run-requires
store_run-requires c =
    (search next-words, search next-room, search run_wide)

pub overflow_add-to : goal.overflow_add-to
overflow_add-to c =
    search next-to-fits

pub overflow_add-from : goal.overflow_add-from
overflow_add-from c =
    search next-from-fits

pub loop-run-preserved : goal.loop-run-preserved
loop-run-preserved c =
    (search next-stored, search next-at)
