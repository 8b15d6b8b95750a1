-- `unpack::read_long` meets its contract: the second walk ends as the first.
-- Assumes nothing.
use Rattle.walk.proofs.Whole.{refused, not-whole, all_stored}
use Rattle.unpack.proofs.read_long.Goals as goal

pub returns-in-Stopped : goal.returns-in-Stopped
returns-in-Stopped c =
    let t = refused _ _ _ _ _ c.first_read.ensures.value _ c.first_read.ensures.words_unchanged _ _ c.in-Stopped.is in record { value = t.0; words_after = t.1 }

pub returns-then-fits : goal.returns-then-fits
returns-then-fits c =
    let t = all_stored _ _ _ _ _ c.first_read.ensures.value _ c.first_read.ensures.words_unchanged _ c.in-Went.is _
    c.fits.ensures _ _ c.if-fits.true c.read_once.ensures.value c.read_once.ensures.words_after in record { value = t.0; words_after = t.1 }

pub returns-else-fits : goal.returns-else-fits
returns-else-fits c =
    let t = not-whole _ _ _ _ _ c.first_read.ensures.value _ c.first_read.ensures.words_unchanged _ c.in-Went.is _
    c.fits.ensures c.if-fits.false in record { value = t.0; words_after = t.1 }
