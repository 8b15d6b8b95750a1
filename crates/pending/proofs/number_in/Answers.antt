-- `pending::number_in` meets its contract: a list that has all its places has this one.
-- Assumes nothing.
use Rattle.std.proofs.Common.{arith}
use Rattle.pending.proofs.Returns.{in_whole}
use Rattle.pending.proofs.number_in.Goals as goal

pub bounds-list-k : goal.bounds-list-k
bounds-list-k c =
    search in_whole

pub overflow_cast-result : goal.overflow_cast-result
overflow_cast-result c =
    omega (arith, c.type_inv.list c.args.k)
