-- `wire::put_number` meets its contract: the first bytes of what is written are the number's.
-- Assumes nothing.
use Rattle.wire.proofs.ZerosBehind.{put_whole}
use Rattle.wire.proofs.put_number.Goals as goal

pub returns : goal.returns
returns g c =
    search (put_whole g.T.Number.exponent)
