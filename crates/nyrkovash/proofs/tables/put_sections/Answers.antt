-- `nyrkovash::put_sections` meets its contract: the index is lent by itself.
-- Assumes nothing.
use Rattle.nyrkovash.proofs.Calling.{index_laid}
use Rattle.nyrkovash.proofs.tables.put_sections.Goals as goal

pub returns : goal.returns
returns c =
    search index_laid
