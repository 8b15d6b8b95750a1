use Rattle.unpack_leaves.proofs.WholeRuns.{bytes_fit}
use Rattle.unpack.proofs.WholeStores.{at_start, none_stored, next-at, next-bytes, next-room, next-from-fits, next-to-fits, next-stored}
use Rattle.unpack.proofs.whole.store_whole.Goals as goal

pub loop-run-init : goal.loop-run-init
loop-run-init c =
    (search none_stored, search at_start)

pub store_run-requires : goal.store_run-requires
store_run-requires c =
    (search next-bytes, search next-room)

pub overflow_mul-from : goal.overflow_mul-from
overflow_mul-from c =
    search bytes_fit

pub overflow_add-from : goal.overflow_add-from
overflow_add-from c =
    search next-from-fits

pub overflow_add-to : goal.overflow_add-to
overflow_add-to c =
    search next-to-fits

pub loop-run-preserved : goal.loop-run-preserved
loop-run-preserved c =
    (search next-stored, search next-at)
