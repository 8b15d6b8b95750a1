-- `wire::whole_at` meets its contract: where a byte is missing it is 0.
-- Assumes nothing.
use Rattle.wire.proofs.ZerosBehind.{read_none}
use Rattle.wire.proofs.whole_at.Goals as goal

pub returns-else-is_whole : goal.returns-else-is_whole
returns-else-is_whole g c =
    search (read_none g.T.Number.exponent)
