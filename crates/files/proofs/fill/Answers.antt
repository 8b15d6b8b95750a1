-- `files::fill` meets its contract: what came lies behind what was filled, and fits.
-- Assumes nothing.
use borrow.Author.Rules.{rules}
use Rattle.files.proofs.Filling.{chunk_part, more-fits, failed-within}
use Rattle.files.proofs.fill.Goals as goal

pub slice_bounds-read_once-end-2 : goal.slice_bounds-read_once-end-2
slice_bounds-read_once-end-2 c =
    search (rules, chunk_part)

pub returns-in-More-clause-brought : goal.returns-in-More-clause-brought
returns-in-More-clause-brought g c =
    search more-fits

pub returns-in-Failed-clause-brought : goal.returns-in-Failed-clause-brought
returns-in-Failed-clause-brought g c =
    search failed-within
