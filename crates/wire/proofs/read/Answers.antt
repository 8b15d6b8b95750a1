-- `wire::read` meets its contract: the number's bytes, with zeros behind them, are the number.
-- Assumes nothing.
use Rattle.wire.proofs.ZerosBehind.{read_whole}
use Rattle.wire.proofs.read.Goals as goal

pub returns : goal.returns
returns g c =
    search (read_whole g.T.Number.exponent)
