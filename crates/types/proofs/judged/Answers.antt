-- `types::judged` meets its contract: every entry is judged before any size.
-- Assumes nothing.
use Rattle.types.proofs.Tables.{judgements}
use Rattle.types.proofs.TypePasses.{entries_kept}
use Rattle.types.proofs.judged.Goals as goal

pub all_fit-requires : goal.all_fit-requires
all_fit-requires c =
    search entries_kept

pub returns-then-all_fit : goal.returns-then-all_fit
returns-then-all_fit c =
    search judgements

pub returns-else-all_fit : goal.returns-else-all_fit
returns-else-all_fit c =
    search judgements

pub returns-else-entries_ok : goal.returns-else-entries_ok
returns-else-entries_ok c =
    search judgements
