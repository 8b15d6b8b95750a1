-- Replies to Issue 3.
-- Assumes nothing.
use Rattle.promises.specs.Replies3.{Replies3}
use Rattle.promises.proofs.Replying3.{too_short, notes3, too_many}

pub replies3 : Replies3
replies3 = record { fit = notes3; do_not_fit = too_short; too_many = too_many }
