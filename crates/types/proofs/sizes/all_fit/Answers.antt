-- `types::sizes::all_fit` meets its contract: all of them are filled in.
-- Assumes nothing.
use Rattle.types.specs.Table.{sizes_ok}
use Rattle.types.proofs.sizes.all_fit.Goals as goal

pub returns : goal.returns
unfolding sizes_ok
returns c =
    search
