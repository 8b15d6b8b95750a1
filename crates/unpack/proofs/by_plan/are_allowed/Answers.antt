-- `unpack::by_plan::are_allowed` meets its contract: by the bytes' end where the code takes every word.
-- Assumes nothing.
use Rattle.wire.specs.Bytes.{Octets}
use Rattle.unpack.proofs.GoodRuns.{every-there}
use Rattle.unpack.proofs.by_plan.are_allowed.Goals as goal

pub returns-then-range_of : goal.returns-then-range_of
returns-then-range_of c =
    let o : Octets c.args.payload.now = λ k. (c.type_inv.payload k).fits in
    search every-there
